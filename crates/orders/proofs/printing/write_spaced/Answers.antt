use Rattle.std.proofs.Common.{◌≡◌, ℕ, ◌==◌, false, List, [], ◌∷◌, ◌++◌, length, codes, refl, sym, ◌∙◌}
use Rattle.text.proofs.Chains.{◌then◌, read_as}
use Rattle.orders.specs.Printing.{spaced_marks, shown_marks}
use Rattle.orders.proofs.printing.write_spaced.Goals as goal

-- marks that are not none
some_marks : (marks : List ℕ) → (length marks == 0) ≡ false → codes " " ++ shown_marks marks ≡ spaced_marks marks
some_marks [] e = cc
some_marks (mark ∷ marks) e = refl

pub returns-then-not-is_empty : goal.returns-then-not-is_empty
returns-then-not-is_empty c =
    read_as (some_marks c.args.marks.now (sym c.is_empty.ensures ∙ c.if-not-is_empty.true)) (c.byte.ensures then c.write_shown.ensures)
