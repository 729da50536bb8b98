use Rattle.std.proofs.Common.{ℕ, replicate, refl, arith}
use Rattle.marking.proofs.Looks.{looked}
use Rattle.marking.proofs.marker.Marker.look.Goals as goal

pub returns-clause-found : goal.returns-clause-found
returns-clause-found c =
    let ends : ℕ × ℕ = (c.in_ok-left.left, c.in_ok-left.right) in
    looked c.args.self.now.shelf.places c.args.place c.args.line.now ends c.args.marks.now c.mark.new.buffer c.in_ok-mark.field-0 (replicate 160 0) c.split.new.trail 128 c.args.sheet.now.entries c.split.new.sheet.entries (omega arith) refl (omega arith) c.in_ok-left.ensures.longest_or_refusal c.in_ok-mark.ensures.marks_or_refusal c.in_ok-split.ensures.split_or_refusal
