use Rattle.std.proofs.Common.{take}
use Rattle.text.specs.Texts.{Adds}
use Rattle.orders.specs.Printing.{tags_text}
use Rattle.orders.proofs.printing.write_tags.Given as goal

abbrev pub invariant-loop-i : goal.invariant-loop-i
invariant-loop-i l = Adds l.initial.out (tags_text 1 (take l.i l.parts)) l.out
