use Rattle.std.proofs.Common.{ℕ, List, [], ◌∷◌, sym, ap, ◌∙◌}
use Rattle.std.proofs.lemmas.Bool.{cond-false}
use Rattle.text.proofs.Chains.{◌then◌, read_as}
use Rattle.proofreading.proofs.showing.write_byte.Goals as goal

-- a list of one
abbrev one : ℕ → List ℕ
one b = b ∷ []

pub returns-else-is_printable : goal.returns-else-is_printable
returns-else-is_printable c =
    read_as (sym (cond-false _ _ _ (sym c.is_printable.ensures ∙ c.if-is_printable.false)))
    (c.byte-else-is_printable.ensures then c.byte-else-is_printable-2.ensures then read_as (ap one c.hex_digit.ensures) c.byte-else-is_printable-3.ensures
    then read_as (ap one c.hex_digit-else-is_printable.ensures) c.byte-else-is_printable-4.ensures)
