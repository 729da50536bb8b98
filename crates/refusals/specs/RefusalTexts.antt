-- How a refusal is printed.
use Rattle.std.specs.Prelude.{ℕ, List, [], ◌++◌, Some, None, codes, decimal, Option}
use Rattle.alphabet.specs.declared.Cause.{Cause}
use Rattle.alphabet.specs.Causes.{cause_number}
use Rattle.shelf.specs.declared.refusal.Refusal.{Refusal}
use Rattle.shelf.specs.Refusals.{refusal_number, refusal_offset, refusal_cause}

-- the offset with its word, or nothing
abbrev pub offset_text : Option ℕ → List ℕ
offset_text None = []
offset_text (Some at) = codes " at " ++ decimal at

-- the number of the cause with its word, or nothing
abbrev pub cause_text : Option Cause → List ℕ
cause_text None = []
cause_text (Some why) = codes " cause " ++ decimal (cause_number why)

-- the number, and where there are an offset and a cause, these
abbrev pub refusal_text : Refusal → List ℕ
refusal_text refusal =
    codes "refused " ++ (decimal (refusal_number refusal) ++ (offset_text (refusal_offset refusal) ++ cause_text (refusal_cause refusal)))
