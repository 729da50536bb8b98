-- The verdict on a pattern of letters.
use Rattle.std.specs.Prelude.{◌≡◌, ℕ, List, take}
use Rattle.alphabet.specs.Letters.{letter_reading}
use Rattle.pattern.specs.Scanning.{syntax_of}
use Rattle.shelf.specs.Filing.{unlawful, counts}
use Rattle.proofreading.specs.declared.TheConstants.{FRONT}
use Rattle.proofreading.specs.Verdicts.{Verdict, verdict_text}

-- what filing it at a bare place answers
abbrev pub verdict_on : List ℕ → Verdict
verdict_on bytes = counts (unlawful (syntax_of letter_reading bytes))

-- The first bytes of a line, as many as `FRONT`, have the verdict of the whole line, word for word.
abbrev pub FrontSuffices : Type 0
FrontSuffices = (n : ℕ) (line : List ℕ) → verdict_text n (take FRONT line) (verdict_on (take FRONT line)) ≡ verdict_text n line (verdict_on line)
