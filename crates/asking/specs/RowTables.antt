-- The tests that admit a symbol, as a set of positions, for each symbol of a line.
use Rattle.std.specs.Prelude.{◌≡◌, ℕ, ◌*◌, ◌%◌, ◌^◌, Bool, cond, ◌&&◌, List, [], ◌∷◌, nat_lt, bit_or}
use Rattle.automaton.specs.Bit.{bit}

-- the set has, of the first n positions, those at which p holds, and no others
abbrev pub RowOf : (ℕ → Bool) → ℕ → ℕ → Type 0
RowOf p n row = (k : ℕ) → bit row k ≡ nat_lt k n && p k

-- a row shifted by one, with the answer of one test more at its front
abbrev pub WithTest : Bool → ℕ → ℕ → Type 0
WithTest answer before after = after ≡ bit_or ((before * 2) % 2 ^ 64) (cond answer 1 0)

-- one set for each symbol
abbrev pub RowsOf : {S : Type 0} → (ℕ → S → Bool) → ℕ → List S → List ℕ → Type 0
RowsOf p n [] [] = Unit {0}
RowsOf p n [] (row ∷ rows) = ⊥
RowsOf p n (s ∷ line) [] = ⊥
RowsOf p n (s ∷ line) (row ∷ rows) = RowOf (λ k. p k s) n row × RowsOf p n line rows
