use Rattle.alphabet.specs.Letters.{letter_reading}
use Rattle.shelf.specs.Filing.{filing}
use Rattle.marking.proofs.TagCounts.{tags_filed}
use Rattle.marking.proofs.marker.Marker.file.Goals as goal

pub invariant_of-self : goal.invariant_of-self
invariant_of-self c =
    let marker = c.args.self.now in
    let filed = filing letter_reading marker.shelf.places c.args.place c.args.pattern.now in
    record { tags_are = tags_filed filed c.args.place marker.shelf.places c.file.new.self.places marker.tags c.in-Ok.tests c.in-Ok.tags marker.tags_are c.in-Ok.ensures.pattern_stands_there c.in-Ok.ensures.counts_or_refusal }
