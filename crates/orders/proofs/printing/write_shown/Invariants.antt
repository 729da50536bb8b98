use Rattle.std.proofs.Common.{take}
use Rattle.text.specs.Texts.{Adds}
use Rattle.orders.specs.Printing.{shown_marks}
use Rattle.orders.proofs.printing.write_shown.Given as goal

abbrev pub invariant-loop-mark : goal.invariant-loop-mark
invariant-loop-mark l = Adds l.initial.out (shown_marks (take l.mark-index l.marks)) l.out
