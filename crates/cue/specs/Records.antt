-- The cue record of a line's marks and parts.
use Rattle.std.specs.Prelude.{ℕ, ◌+◌, ◌-◌, Bool, true, ◌&&◌, List, [], ◌∷◌, ◌++◌, length, Some, None, Option, nat_le, nat_lt}
use Rattle.std.specs.List.{list_all}
use Rattle.sheet.specs.declared.Part.{Part}
use Rattle.cue.specs.Leb128.{leb128}
use Rattle.cue.specs.Marks.{runs_of}

-- each run: its gap and its length
abbrev pub run_bytes : List (ℕ × ℕ) → List ℕ
run_bytes [] = []
run_bytes (run ∷ runs) = leb128 run.0 ++ (leb128 run.1 ++ run_bytes runs)

-- the parts on a sheet, each with its tag, where the first of the entries is that of the tag given
abbrev pub parts_from : ℕ → List (Option Part) → List (ℕ × Part)
parts_from tag [] = []
parts_from tag (None ∷ entries) = parts_from (tag + 1) entries
parts_from tag (Some part ∷ entries) = (tag, part) ∷ parts_from (tag + 1) entries

-- each part: its tag, its start and its length
abbrev pub part_bytes : List (ℕ × Part) → List ℕ
part_bytes [] = []
part_bytes (one ∷ parts) = leb128 one.0 ++ (leb128 one.1.left ++ (leb128 (one.1.right - one.1.left) ++ part_bytes parts))

-- the count of runs and the runs, then the count of parts and the parts
abbrev pub counted : List (ℕ × ℕ) → List (ℕ × Part) → List ℕ
counted runs parts = leb128 (length runs) ++ (run_bytes runs ++ (leb128 (length parts) ++ part_bytes parts))

-- the record of some marks and the entries of a sheet
abbrev pub record_of : List ℕ → List (Option Part) → List ℕ
record_of marks entries = counted (runs_of marks) (parts_from 1 entries)

-- the part is not empty, not reversed and not past the line
abbrev pub fits : ℕ → Part → Bool
fits symbols part = nat_lt part.left part.right && nat_le part.right symbols

-- an entry has no part, or one that is so
abbrev pub entry_fits : ℕ → Option Part → Bool
entry_fits symbols None = true
entry_fits symbols (Some part) = fits symbols part

-- every part of some entries is so
abbrev pub all_fit : ℕ → List (Option Part) → Bool
all_fit symbols entries = list_all (λ entry. entry_fits symbols entry) entries
