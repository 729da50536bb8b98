-- What is said of the stretches of a line that read, whatever it is that makes a stretch read.
-- A stretch of the line goes from a symbol l up to a symbol r, without r; the empty one has l ≡ r.
use Rattle.std.specs.Prelude.{◌≡◌, ℕ, ◌-◌, ◌<◌, ◌≤◌, ◌⊎◌, List, length, take, sum, slice_index}

-- the stretch x is longer than the stretch y, or as long and no further right
abbrev pub Ahead : ℕ × ℕ → ℕ × ℕ → Type 0
Ahead x y = (y.1 - y.0 < x.1 - x.0) ⊎ ((y.1 - y.0 ≡ x.1 - x.0) × (x.0 ≤ y.0))

-- the stretch reads, and every stretch that reads is shorter, or as long and no further left
pub record Longest (Reads : ℕ → ℕ → Type 0) (ends : ℕ × ℕ) : Type 0 where
  pub reads : Reads ends.0 ends.1
  pub ahead : (l r : ℕ) → Reads l r → Ahead ends (l, r)

-- no stretch reads
abbrev pub NoneReads : (ℕ → ℕ → Type 0) → Type 0
NoneReads Reads = (l r : ℕ) → Reads l r → ⊥

-- some stretch that reads has the symbol i
pub record Covered (Reads : ℕ → ℕ → Type 0) (i : ℕ) : Type 0 where
  pub left : ℕ
  pub right : ℕ
  pub from : left ≤ i
  pub to : i < right
  pub reads : Reads left right

-- the mark is 1 where the symbol i is covered, and 0 where it is not
abbrev pub MarkedRight : (ℕ → ℕ → Type 0) → ℕ → ℕ → Type 0
MarkedRight Reads i mark = ((mark ≡ 1) × Covered Reads i) ⊎ ((mark ≡ 0) × (Covered Reads i → ⊥))

-- of a line of so many symbols, the buffer has a mark for each at its front, in place of what it held before; what stands behind is
-- as it was, and the count is how many marks are 1
pub record Marks (Reads : ℕ → ℕ → Type 0) (symbols : ℕ) (before after : List ℕ) (count : ℕ) : Type 0 where
  pub room : symbols ≤ length before
  pub kept : length after ≡ length before
  pub marks : (i : ℕ) → i < symbols → MarkedRight Reads i (slice_index after i)
  pub rest : (i : ℕ) → symbols ≤ i → slice_index after i ≡ slice_index before i
  pub counted : count ≡ sum (take symbols after)
