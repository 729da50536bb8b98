use Rattle.marking.proofs.TagCounts.{tags_bared}
use Rattle.marking.proofs.marker.Marker.withdraw.Goals as goal

pub invariant_of-self : goal.invariant_of-self
invariant_of-self c =
    let marker = c.args.self.now in
    record { tags_are = tags_bared c.args.place marker.shelf.places c.withdraw.new.self.places marker.tags marker.tags_are c.in-Ok.ensures.only_that_place_is_bared }
