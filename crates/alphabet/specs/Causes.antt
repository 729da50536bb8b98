-- The causes for which bytes are not a test, by number and in words.
use Rattle.std.specs.Prelude.{ℕ, List, codes}
use Rattle.alphabet.specs.declared.Cause.{Cause}
use Rattle.alphabet.specs.declared.Cause.TheVariants.{CutShort, OutOfRange, UnknownForm}

-- the number under which a cause is reported
abbrev pub cause_number : Cause → ℕ
cause_number CutShort = 1
cause_number OutOfRange = 2
cause_number UnknownForm = 3

-- the same in words
abbrev pub cause_words : Cause → List ℕ
cause_words CutShort = codes "not a test: cut short"
cause_words OutOfRange = codes "not a test: out of range"
cause_words UnknownForm = codes "not a test: unknown form"
