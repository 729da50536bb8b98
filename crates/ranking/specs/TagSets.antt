-- A set of tags is a number: bit k - 1 stands for tag k. The extent of a trail is how many tags its symbols have, counted over all of
-- them.
use Rattle.std.specs.Prelude.{ℕ, ◌+◌, count_ones}

-- how many tags are in a set
abbrev pub tags_in : ℕ → ℕ
tags_in tags = count_ones tags

-- the extent of no symbols
abbrev pub no_extent : ℕ
no_extent = 0

-- the extent with one symbol more, by the set of its tags
abbrev pub extent_with : ℕ → ℕ → ℕ
extent_with extent tags = extent + tags_in tags
