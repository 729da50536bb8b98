use Rattle.parts.specs.Parts.{is_in}
use Rattle.parts.proofs.Growing.{PartUpTo}
use Rattle.parts.proofs.part_along.Given as goal

abbrev pub invariant-loop-i : goal.invariant-loop-i
invariant-loop-i l = PartUpTo (is_in l.sets l.tag) l.left l.trail l.i l.part
