-- The choice among positions by their measures, where m has the measure of each.
use Rattle.std.specs.Prelude.{◌≡◌, ℕ, ◌<◌}
use Rattle.std.specs.declared.cmp.Ordering.TheVariants.{Less, Equal}
use Rattle.std.specs.declared.cmp.Ordering.{Ordering}

-- p is r, or its measure is lower, or the two are equal and r is the smaller position
pub data Wins {M : Type 0} (compared : M → M → Ordering) (m : ℕ → M) (r p : ℕ) : Type 0 where
  same : p ≡ r → Wins compared m r p
  higher : compared (m p) (m r) ≡ Less → Wins compared m r p
  earlier : compared (m p) (m r) ≡ Equal → r < p → Wins compared m r p

-- r is one of the candidates, and wins over all of them
pub record Pick {M : Type 0} (compared : M → M → Ordering) (m : ℕ → M) (Candidate : ℕ → Type 0) (r : ℕ) : Type 0 where
  pub candidate : Candidate r
  pub wins : (p : ℕ) → Candidate p → Wins compared m r p
