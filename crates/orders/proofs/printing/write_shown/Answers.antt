use Rattle.std.proofs.Common.{[], ◌∷◌, ap, arith}
use Rattle.std.proofs.lemmas.List.{take_all}
use Rattle.text.proofs.Chains.{element, read_as}
use Rattle.orders.specs.Printing.{shown_mark, shown_marks}
use Rattle.orders.proofs.Pushes.{marks_push}
use Rattle.orders.proofs.printing.write_shown.Goals as goal

pub loop-mark-preserved : goal.loop-mark-preserved
loop-mark-preserved c =
    element shown_marks (λ m. shown_mark m ∷ []) marks_push c.args.marks.now c.loop-mark.mark-index 0 (omega arith) c.loop-mark.invariant (read_as (ap (λ b. b ∷ []) c.shown_mark.ensures) c.byte.ensures)

pub returns : goal.returns
returns c = read_as (ap shown_marks (take_all c.loop-mark.mark-index c.args.marks.now (omega arith))) c.loop-mark.invariant
