-- Marks, one for each symbol of a line, and their longest runs. A run is told by its gap, which is how many unmarked symbols stand
-- between it and the run before (or the line's start), and its length.
use Rattle.std.specs.Prelude.{◌≡◌, ℕ, zero, suc, ◌+◌, ◌-◌, ◌≤◌, min, cond, List, [], ◌∷◌, ◌++◌, length, map, replicate, ◌==◌}

-- a mark as 1 or 0: any other number than 0 marks
abbrev pub mark : ℕ → ℕ
mark m = cond (m == 0) 0 1

-- the marks as 1 and 0
abbrev pub marks : List ℕ → List ℕ
marks ms = map mark ms

-- the runs of some marks, where so many unmarked symbols and then so many marked ones come before the first of these
abbrev pub runs_after : ℕ → ℕ → List ℕ → List (ℕ × ℕ)
runs_after gap zero [] = []
runs_after gap (suc more) [] = (gap, suc more) ∷ []
runs_after gap zero (m ∷ ms) = cond (m == 0) (runs_after (gap + 1) zero ms) (runs_after gap 1 ms)
runs_after gap (suc more) (m ∷ ms) = cond (m == 0) ((gap, suc more) ∷ runs_after 1 zero ms) (runs_after gap (suc (suc more)) ms)

-- the longest runs of some marks, first to last
abbrev pub runs_of : List ℕ → List (ℕ × ℕ)
runs_of ms = runs_after 0 0 ms

-- the least gap behind what ended there: none at the line's start, and 1 behind a run, which else would not be a longest one
abbrev pub least_gap : ℕ → ℕ
least_gap end = min end 1

-- runs that are longest ones and stay within a line of so many symbols, where the run before ended there
abbrev pub LongestRuns : ℕ → ℕ → List (ℕ × ℕ) → Type 0
LongestRuns symbols end [] = end ≤ symbols
LongestRuns symbols end (run ∷ runs) = (least_gap end ≤ run.0) × (1 ≤ run.1) × LongestRuns symbols (end + run.0 + run.1) runs

-- the marks of so many symbols that have these runs
abbrev pub laid : ℕ → List (ℕ × ℕ) → List ℕ
laid symbols [] = replicate symbols 0
laid symbols (run ∷ runs) = replicate run.0 0 ++ (replicate run.1 1 ++ laid (symbols - (run.0 + run.1)) runs)

-- the runs of some marks are longest ones within them, and lay out these marks
pub record RunsOf (ms : List ℕ) : Type 0 where
  pub longest : LongestRuns (length ms) 0 (runs_of ms)
  pub same_marks : laid (length ms) (runs_of ms) ≡ marks ms
