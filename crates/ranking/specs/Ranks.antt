use Rattle.std.specs.Prelude.{◌≡◌, ℕ, List, [], ◌∷◌}
use Rattle.std.specs.declared.cmp.Ordering.{Ordering}

-- the rank of a list of tag sets, one set a symbol: the start stepped once for each set, from the first to the last
abbrev pub rank_of : {M : Type 0} → M → (M → ℕ → M) → List ℕ → M
rank_of start stepped [] = start
rank_of start stepped (tags ∷ sets) = rank_of (stepped start tags) stepped sets

-- two rankings rank alike: whatever tag sets two trails have, their ranks compare under the one as under the other
abbrev pub RankAlike : {M N : Type 0} → M → (M → ℕ → M) → (M → M → Ordering) → N → (N → ℕ → N) → (N → N → Ordering) → Type 0
RankAlike start stepped compared start' stepped' compared' =
    (sets sets' : List ℕ) → compared (rank_of start stepped sets) (rank_of start stepped sets') ≡ compared' (rank_of start' stepped' sets) (rank_of start' stepped' sets')
