-- What a pattern reads of a line. No automaton stands in these definitions.
use Rattle.std.specs.Prelude.{◌≡◌, ℕ, ◌-◌, ◌≤◌, Bool, true, List, [], ◌∷◌, length, slice_index, slice_range}
use Rattle.pattern.specs.Expressions.{Expr, Word}

-- whether the test p of a pattern admits a symbol, by the number under which the alphabet keeps it
abbrev pub test_admits : {S : Type 0} → (ℕ → S → Bool) → List ℕ → ℕ → S → Bool
test_admits meaning codes p s = meaning (slice_index codes (p - 1)) s

-- the tests of a word admit the symbols of a string, one each. (Crate `splitting` has the same by positions of an automaton.)
abbrev pub Admitted : {S : Type 0} → (ℕ → S → Bool) → List ℕ → List S → Type 0
Admitted admits [] [] = Unit {0}
Admitted admits [] (s ∷ string) = ⊥
Admitted admits (p ∷ word) [] = ⊥
Admitted admits (p ∷ word) (s ∷ string) = (admits p s ≡ true) × Admitted admits word string

-- the symbols l to r - 1
abbrev pub stretch : {S : Type 0} → List S → ℕ → ℕ → List S
stretch line l r = slice_range line l r

-- the stretch l to r reads: some word of the expression has, symbol by symbol, a test that admits it
pub record Reads {S : Type 0} (admits : ℕ → S → Bool) (e : Expr) (line : List S) (l r : ℕ) : Type 0 where
  pub ordered : l ≤ r
  pub within : r ≤ length line
  pub word : List ℕ
  pub is_word : Word e word
  pub admitted : Admitted admits word (stretch line l r)
