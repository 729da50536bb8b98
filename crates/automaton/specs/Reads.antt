-- What an automaton reads of a line, of which only the rows are known: row k is the set of the positions that admit the symbol k.
-- A stretch of the line goes from a symbol l up to a symbol r, without r; the empty one has l ≡ r.
use Rattle.std.specs.Prelude.{◌≡◌, ℕ, ◌+◌, ◌<◌, ◌≤◌, true, List, [], ◌∷◌, length, map, slice_index}
use Rattle.automaton.specs.declared.machine.Automaton.{Automaton}
use Rattle.automaton.specs.Bit.{In}

-- from the position p on, the positions of a list follow one another, up to a last one
abbrev pub Path : Automaton → ℕ → List ℕ → Type 0
Path a p [] = In a.last p
Path a p (q ∷ w) = In (slice_index a.follow p) q × Path a q w

-- the positions of a list are a walk: a first one, each next one among those that follow, and a last one
abbrev pub Walk : Automaton → List ℕ → Type 0
Walk a [] = a.nullable ≡ true
Walk a (p ∷ w) = In a.first p × Path a p w

-- the numbers of the tests that have these positions: tests are numbered from 1, and positions from 0
abbrev pub tests_of : List ℕ → List ℕ
tests_of positions = map (λ q. q + 1) positions

-- the positions of a list admit the symbols from l to r, one each
abbrev pub Admits : List ℕ → ℕ → ℕ → List ℕ → Type 0
Admits rows l r [] = (l ≡ r) × (r ≤ length rows)
Admits rows l r (p ∷ w) = (l < length rows) × In (slice_index rows l) p × Admits rows (l + 1) r w

-- the stretch from l to r reads: some walk admits its symbols
pub record Reads (a : Automaton) (rows : List ℕ) (l r : ℕ) : Type 0 where
  pub positions : List ℕ
  pub walks : Walk a positions
  pub admits : Admits rows l r positions
