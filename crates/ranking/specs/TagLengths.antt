-- The lengths of the tags of a trail, tag 1 first. The length of a tag is how many symbols have it.
use Rattle.std.specs.Prelude.{ℕ, ◌+◌, ◌/◌, ◌%◌, List, [], ◌∷◌, replicate}
use Rattle.std.specs.declared.cmp.Ordering.TheVariants.{Less, Equal, Greater}
use Rattle.std.specs.declared.cmp.Ordering.{Ordering}
use Rattle.std.specs.Ordering.{ordering_then}
use Rattle.ranking.specs.Numbers.{ordered}

-- the lengths of no symbols: 0 for each of the eight tags
abbrev pub no_lengths : List ℕ
no_lengths = replicate 8 0

-- the lengths with one symbol more: each tag that is in the symbol's set is one symbol longer. Whether tag 1 is in a set is its lowest
-- bit, and half of the set has the other tags, one number lower each
abbrev pub longer_by : List ℕ → ℕ → List ℕ
longer_by [] tags = []
longer_by (length ∷ lengths) tags = (length + tags % 2) ∷ longer_by lengths (tags / 2)

-- how the lengths compare at the first tag at which they differ
abbrev pub first_difference : List ℕ → List ℕ → Ordering
first_difference [] [] = Equal
first_difference [] (y ∷ ys) = Less
first_difference (x ∷ xs) [] = Greater
first_difference (x ∷ xs) (y ∷ ys) = ordering_then (ordered x y) (first_difference xs ys)
