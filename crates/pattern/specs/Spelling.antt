-- An automaton and the words of an expression.
use Rattle.std.specs.Prelude.{◌≡◌, ℕ, ◌<◌, List, [], ◌∷◌}
use Rattle.automaton.specs.declared.machine.Automaton.{Automaton}
use Rattle.automaton.specs.Reads.{Walk, tests_of}
use Rattle.pattern.specs.Expressions.{Expr, Word}

-- positions below n
abbrev pub Below : ℕ → List ℕ → Type 0
Below n [] = Unit {0}
Below n (k ∷ ks) = (k < n) × Below n ks

-- the walks of the automaton are the words of an expression that has n tests
pub record HasWords (n : ℕ) (e : Expr) (a : Automaton) : Type 0 where
  pub walked : (ks : List ℕ) → Word e (tests_of ks) → Walk a ks
  pub spelled : (ks : List ℕ) → Walk a ks → Word e (tests_of ks)
  pub placed : (w : List ℕ) → Word e w → (ks : List ℕ) × (w ≡ tests_of ks) × Below n ks
