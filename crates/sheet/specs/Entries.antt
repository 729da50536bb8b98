-- The entries of a sheet, by tag. The entry of tag 1 stands first.
use Rattle.std.specs.Prelude.{ℕ, ◌-◌, Bool, cond, ◌&&◌, List, None, Option, nat_le, slice_index_or, slice_set}
use Rattle.sheet.specs.declared.Part.{Part}

-- the number is that of a tag
abbrev pub is_tag : ℕ → Bool
is_tag tag = nat_le 1 tag && nat_le tag 8

-- the part of a tag, or none
abbrev pub entry : List (Option Part) → ℕ → Option Part
entry entries tag = cond (is_tag tag) (slice_index_or entries (tag - 1) None) None

-- the entries with that of one tag changed
abbrev pub with_entry : List (Option Part) → ℕ → Option Part → List (Option Part)
with_entry entries tag part = cond (is_tag tag) (slice_set entries (tag - 1) part) entries
