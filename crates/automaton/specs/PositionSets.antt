-- The positions of a set, one after another from the lowest up.
use Rattle.std.specs.Prelude.{◌≡◌, ℕ, ◌<◌, ◌⊎◌, Option, MatchOption}
use Rattle.automaton.specs.declared.positions.Positions.{Positions}
use Rattle.automaton.specs.Bit.{In}

-- p is the lowest position of the set x, one below 64, and y has the others, all above it
pub record Lowest (x p y : ℕ) : Type 0 where
  pub below : p < 64
  pub one : In x p
  pub each : (q : ℕ) → In x q → (q ≡ p) ⊎ In y q
  pub others : (q : ℕ) → In y q → In x q
  pub above : (q : ℕ) → In y q → p < q

-- a call of `next` gives the lowest of the positions that are left, and leaves the others; where none is left it gives `None`
abbrev pub GivesLowest : Positions → Option ℕ → Positions → Type 0
GivesLowest s r t = MatchOption r ((s.left ≡ 0) × (t.left ≡ 0)) (λ p. Lowest s.left p t.left)
