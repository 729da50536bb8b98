-- The parts that a trail gives to the tags. A trail is a word of test numbers, one for each symbol of a stretch of a line, and the
-- stretch starts at the symbol `left` of the line.
use Rattle.std.specs.Prelude.{◌≡◌, ℕ, zero, suc, ◌+◌, ◌-◌, ◌<◌, ◌≤◌, Bool, true, false, List, length, Some, None, Option, slice_index}
use Rattle.automaton.specs.Bit.{bit}
use Rattle.sheet.specs.declared.Part.{Part}
use Rattle.sheet.specs.Entries.{entry}

-- the part goes from the first symbol whose test is inside to just past the last one
pub record Spans (inside : ℕ → Bool) (left : ℕ) (word : List ℕ) (part : Part) : Type 0 where
  pub from : left ≤ part.left
  pub some : part.left < part.right
  pub to : part.right ≤ left + length word
  pub first : inside (slice_index word (part.left - left)) ≡ true
  pub last : inside (slice_index word (part.right - 1 - left)) ≡ true
  pub within : (k : ℕ) → k < length word → inside (slice_index word k) ≡ true → (part.left ≤ left + k) × (left + k < part.right)

-- of the tests that are inside a tag: the tag has no part exactly if the word has none of them, and else the part that spans them
abbrev pub PartAlong : (ℕ → Bool) → ℕ → List ℕ → Option Part → Type 0
PartAlong inside left word None = (k : ℕ) → k < length word → inside (slice_index word k) ≡ false
PartAlong inside left word (Some part) = Spans inside left word part

-- eight entries, one for each tag from 1 to 8; `inside` tells of a tag and a test whether the test is inside the tag
pub record PartsAlong (inside : ℕ → ℕ → Bool) (left : ℕ) (word : List ℕ) (entries : List (Option Part)) : Type 0 where
  pub eight : length entries ≡ 8
  pub each : (t : ℕ) → 1 ≤ t → t ≤ 8 → PartAlong (inside t) left word (entry entries t)

-- the set of a test's tags, where those of test 1 stand first; a number that is no test's has none
abbrev pub tags_of : List ℕ → ℕ → ℕ
tags_of sets zero = 0
tags_of sets (suc p) = slice_index sets p

-- the tag t is in the set of the test p; bit t - 1 of a set stands for the tag t
abbrev pub is_in : List ℕ → ℕ → ℕ → Bool
is_in sets t p = bit (tags_of sets p) (t - 1)
