-- What is required of a ranking.
use Rattle.std.specs.Prelude.{◌≡◌, ℕ, ◌+◌, ◌<◌, true}
use Rattle.std.specs.declared.cmp.Ordering.{Ordering}
use Rattle.std.specs.Ordering.{ordering_reverse, is_ge}

module _ {M : Type 0} (start : M) (stepped : M → ℕ → M) where
  -- a measure is at most n steps from the start, each by a set of tags, which is a byte
  pub data Near : ℕ → M → Type 0 where
    at_start : {n : ℕ} → Near n start
    one_more : {n : ℕ} {m : M} → Near n m → (tags : ℕ) → tags < 256 → Near (n + 1) (stepped m tags)

-- the laws of a ranking, asked of measures that are at most 160 steps from the start
pub record Lawful {M : Type 0} (start : M) (stepped : M → ℕ → M) (compared : M → M → Ordering) : Type 0 where
  -- a comparison tells the same when it is swapped: higher one way is lower the other way, and equal is equal; so of any two measures
  -- one is higher, or the two are equal
  pub swapped : {a b : M} → Near start stepped 160 a → Near start stepped 160 b → compared b a ≡ ordering_reverse (compared a b)
  -- what is higher than or equal to a second, which is higher than or equal to a third, is higher than or equal to the third
  pub transitive : {a b c : M} → Near start stepped 160 a → Near start stepped 160 b → Near start stepped 160 c → is_ge (compared a b) ≡ true → is_ge (compared b c) ≡ true → is_ge (compared a c) ≡ true
  -- one same step on both sides leaves the comparison as it was
  pub same_step : {a b : M} → Near start stepped 159 a → Near start stepped 159 b → (tags : ℕ) → tags < 256 → compared (stepped a tags) (stepped b tags) ≡ compared a b
