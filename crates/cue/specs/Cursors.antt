-- A cursor over a record, by what is still to come.
use Rattle.std.specs.Prelude.{◌≡◌, ℕ, List, drop, Some, None, Ok, Err, Option, Result}
use Rattle.cue.specs.declared.refusal.Fault.{Fault}
use Rattle.cue.specs.declared.cursor.Cue.{Cue}
use Rattle.cue.specs.declared.cursor.Cursor.{Cursor}
use Rattle.cue.specs.declared.cursor.Stage.{Stage}
use Rattle.cue.specs.declared.cursor.Stage.TheVariants.{Runs, Parts}
use Rattle.cue.specs.Cues.{Cues, next, good, bad, runs_to_come, parts_to_come}

-- the bytes of the record from the cursor's offset on
abbrev pub left : Cursor → List ℕ
left c = drop c.offset c.bytes.now

-- what comes at a stage
abbrev pub staged : Stage → ℕ → ℕ → List ℕ → Cues
staged (Runs more end) symbols at bytes = runs_to_come symbols more end at bytes
staged (Parts more tag) symbols at bytes = parts_to_come symbols more tag at bytes

-- what is still to come
abbrev pub cues_left : Cursor → Cues
cues_left c = staged c.stage c.symbols c.offset (left c)

-- a number was taken from the front of what is left, or was refused
abbrev pub Took : Result (ℕ × ℕ × List ℕ) Fault → Cursor → Cursor → Result ℕ Fault → Type 0
Took (Ok x) was is r = (r ≡ Ok x.0) × (is.offset ≡ x.1) × (left is ≡ x.2) × (is.symbols ≡ was.symbols) × (is.stage ≡ was.stage)
Took (Err fault) was is r = r ≡ Err fault

-- the first of what is to come was handed out, and the rest is still to come; at the record's end that it is good, or its fault
abbrev pub Yields : Cues → Cursor → Result (Option Cue) Fault → Type 0
Yields (next cue rest) is r = (r ≡ Ok (Some cue)) × (cues_left is ≡ rest)
Yields good is r = (r ≡ Ok None) × (cues_left is ≡ good)
Yields (bad fault) is r = r ≡ Err fault
