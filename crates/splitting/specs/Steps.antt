-- What the functions of the sweep do, where m has the measure of each position at the symbol before.
use Rattle.std.specs.Prelude.{◌≡◌, ℕ, zero, suc, ◌<◌, true, cond, List, [], ◌∷◌, slice_index, slice_index_or}
use Rattle.std.specs.declared.cmp.Ordering.{Ordering}
use Rattle.std.specs.Ordering.{is_le, is_gt}
use Rattle.automaton.specs.Bit.{In}
use Rattle.splitting.specs.Choice.{Pick}

-- the measure of each position, where a list has them in order; the start for a position past its end
abbrev pub measure_of : {M : Type 0} → M → List M → ℕ → M
measure_of start measures p = slice_index_or measures p start

-- p was offered to each position of the set `onto` as the one before it: it stands there where none stood, and where its measure is
-- higher than that of the one that stood there; nothing else is changed
pub record Offered {M : Type 0} (compared : M → M → Ordering) (m : ℕ → M) (p onto reached : ℕ) (before after : List ℕ) : Type 0 where
  pub others : (q : ℕ) → (In onto q → ⊥) → slice_index after q ≡ slice_index before q
  pub fresh : (q : ℕ) → In onto q → (In reached q → ⊥) → slice_index after q ≡ p
  pub contested : (q : ℕ) → In onto q → In reached q → slice_index after q ≡ cond (is_gt (compared (m p) (m (slice_index before q)))) p (slice_index before q)

-- the live position r has the lowest measure of those that stand before the positions of a set, or a lower one
pub record LowestBefore {M : Type 0} (compared : M → M → Ordering) (m : ℕ → M) (live set : ℕ) (previous : List ℕ) (r : ℕ) : Type 0 where
  pub stands : In live r
  pub lowest : (q : ℕ) → In set q → is_le (compared (m r) (m (slice_index previous q))) ≡ true

-- the positions of a row that may follow a live one are reached, and no others, and the one before each is picked among the live ones
-- that it may follow; what stands before the others is a position too
pub record Preceded {M : Type 0} (compared : M → M → Ordering) (m : ℕ → M) (follow : List ℕ) (live row positions : ℕ) (previous : List ℕ) : Type 0 where
  pub picked : (q : ℕ) → In positions q → Pick compared m (λ p. In live p × In (slice_index follow p) q) (slice_index previous q)
  pub admitted : (q : ℕ) → In positions q → In row q
  pub complete : (p q : ℕ) → In live p → In (slice_index follow p) q → In row q → In positions q
  pub low : (q : ℕ) → slice_index previous q < 64

-- the measure of each position that is reached is that of the one before it, with one step more
abbrev pub Stepped : {M : Type 0} → M → (M → ℕ → M) → List ℕ → ℕ → List ℕ → List M → List M → Type 0
Stepped start stepped tags positions previous before after =
    (q : ℕ) → In positions q → slice_index_or after q start ≡ stepped (slice_index_or before (slice_index previous q) start) (slice_index tags q)

-- the table of positions before has only positions
abbrev pub Low : List (List ℕ) → Type 0
Low back = (i q : ℕ) → slice_index (slice_index_or back i []) q < 64

-- the n positions from q back, the newest first: row i of the table has for each position at the symbol i the one at the symbol before
abbrev pub back_from : List (List ℕ) → ℕ → ℕ → List ℕ
back_from back zero q = []
back_from back (suc n) q = q ∷ back_from back n (slice_index (slice_index_or back n []) q)

-- the start stepped once for each position of a list that has the newest first, from the oldest on
abbrev pub rank_back : {M : Type 0} → M → (M → ℕ → M) → List ℕ → List ℕ → M
rank_back start stepped tags [] = start
rank_back start stepped tags (q ∷ w) = stepped (rank_back start stepped tags w) (slice_index tags q)
