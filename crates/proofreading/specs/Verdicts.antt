-- The text of a verdict.
use Rattle.std.specs.Prelude.{ℕ, List, ◌++◌, Ok, Err, codes, decimal, Result}
use Rattle.refusals.specs.RefusalTexts.{refusal_text}
use Rattle.shelf.specs.declared.refusal.Refusal.{Refusal}
use Rattle.shelf.specs.Refusals.{refusal_words, refusal_offset}
use Rattle.proofreading.specs.Showing.{pattern_line, caret_line}
use Rattle.proofreading.specs.Words.{counted}

-- a lawful pattern's numbers of tests and tags, or why it is refused
abbrev pub Verdict : Type 0
Verdict = Result (ℕ × ℕ) Refusal

-- behind the number of the line, where the pattern is lawful: its numbers of tests and tags, and on a line of its own the pattern
abbrev pub lawful_text : List ℕ → ℕ → ℕ → List ℕ
lawful_text bs tests tags =
    codes ": lawful, " ++ (counted tests (codes "test") ++ (codes ", " ++ (counted tags (codes "tag") ++ (codes "\n" ++ pattern_line bs))))

-- the same where it is refused: the refusal, also in words, the pattern, and a caret below the offset if there is one
abbrev pub refused_text : List ℕ → Refusal → List ℕ
refused_text bs refusal =
    codes ": "
    ++ (refusal_text refusal
    ++ (codes ", " ++ (refusal_words refusal ++ (codes "\n" ++ (pattern_line bs ++ caret_line bs (refusal_offset refusal))))))

-- either, by the verdict
abbrev pub finding_text : List ℕ → Verdict → List ℕ
finding_text bs (Ok counts) = lawful_text bs counts.0 counts.1
finding_text bs (Err refusal) = refused_text bs refusal

-- the verdict on the pattern in the line of this number
abbrev pub verdict_text : ℕ → List ℕ → Verdict → List ℕ
verdict_text line bs verdict = codes "line " ++ (decimal line ++ finding_text bs verdict)
