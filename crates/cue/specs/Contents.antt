-- What the functions of the reader keep from cue to cue.
use Rattle.std.specs.Prelude.{◌≡◌, ℕ, suc, ◌≤◌, Some}
use Rattle.sheet.specs.Entries.{with_entry}
use Rattle.cue.specs.declared.cursor.Cue.{Cue}
use Rattle.cue.specs.declared.cursor.Cue.TheVariants.{Run, TagPart}
use Rattle.cue.specs.declared.reading.Content.{Content}
use Rattle.cue.specs.declared.refusal.Fault.{Fault}
use Rattle.cue.specs.Cues.{Cues, next, good, bad}
use Rattle.cue.specs.Answers.{with_run}

-- a run lies within so many symbols
abbrev pub Fits : ℕ → Cue → Type 0
Fits symbols (Run run) = (run.left ≤ run.right) × (run.right ≤ symbols)
Fits symbols (TagPart one) = Unit {0}

-- and so does each that comes
pub data AllFit (symbols : ℕ) : Cues → Type 0 where
  fitting : {cue : Cue} {cues : Cues} → Fits symbols cue → AllFit symbols cues → AllFit symbols (next cue cues)
  ended : AllFit symbols good
  faulty : {fault : Fault} → AllFit symbols (bad fault)

-- how many come
abbrev pub many : Cues → ℕ
many (next cue cues) = suc (many cues)
many good = 0
many (bad fault) = 0

-- one run or part more
abbrev pub With : Cue → Content → Content → Type 0
With (Run run) was is = (is.marks ≡ with_run run.left run.right was.marks) × (is.sheet ≡ was.sheet)
With (TagPart one) was is = (is.marks ≡ was.marks) × (is.sheet.entries ≡ with_entry was.sheet.entries one.tag (Some one.part))
