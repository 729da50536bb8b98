-- The fronts of trails, as the sweep goes over the symbols. A list of positions has the newest first here.
use Rattle.std.proofs.Common.{◌≡◌, ℕ, zero, suc, ◌<◌, min, Bool, true, false, ◌&&◌, ltb, ◌⊎◌, List, [], ◌∷◌, length, get_or, Ordering, Less, Equal}
use Rattle.automaton.specs.declared.machine.Automaton.{Automaton}
use Rattle.automaton.specs.Bit.{In}
use Rattle.splitting.specs.Steps.{back_from, rank_back}

-- whether a position may stand at a place of the stretch: it has a code, and its test admits the symbol
abbrev pub may_stand : {S : Type 0} → (ℕ → S → Bool) → ℕ → List S → ℕ → ℕ → Bool
may_stand admits codes [] i q = false
may_stand admits codes (s ∷ stretch) zero q = ltb q (min 64 codes) && admits q s
may_stand admits codes (s ∷ stretch) (suc i) q = may_stand admits codes stretch i q

-- the position q may stand after these positions
abbrev pub Comes : Automaton → ℕ → List ℕ → Type 0
Comes a q [] = In a.first q
Comes a q (p ∷ w) = In (get_or a.follow p 0) q

-- a front of a trail: each position may stand after those before it, and at its place
abbrev pub Front : Automaton → (ℕ → ℕ → Bool) → List ℕ → Type 0
Front a may [] = Unit {0}
Front a may (q ∷ w) = (q < 64) × (may (length w) q ≡ true) × Comes a q w × Front a may w

-- a walk may end after these positions
abbrev pub Ends : Automaton → List ℕ → Type 0
Ends a [] = a.nullable ≡ true
Ends a (q ∷ w) = In a.last q

-- a whole trail: a front with one position for each symbol, and its newest position may end it
pub record Full (a : Automaton) (may : ℕ → ℕ → Bool) (symbols : ℕ) (w : List ℕ) : Type 0 where
  pub whole : length w ≡ symbols
  pub front : Front a may w
  pub ends : Ends a w

-- the tie order: at the first difference from the newest position back the smaller position comes first
abbrev pub Earlier : List ℕ → List ℕ → Type 0
Earlier [] v = ⊥
Earlier (x ∷ u) [] = ⊥
Earlier (x ∷ u) (y ∷ v) = (x < y) ⊎ ((x ≡ y) × Earlier u v)

-- v is w, or ranks lower than w, or ranks equal and comes later
pub data Rules {M : Type 0} (compared : M → M → Ordering) (rank : List ℕ → M) (w v : List ℕ) : Type 0 where
  same : v ≡ w → Rules compared rank w v
  higher : compared (rank v) (rank w) ≡ Less → Rules compared rank w v
  earlier : compared (rank v) (rank w) ≡ Equal → Earlier w v → Rules compared rank w v

module _ {M : Type 0} (start : M) (stepped : M → ℕ → M) (compared : M → M → Ordering) (a : Automaton) (tags : List ℕ) (may : ℕ → ℕ → Bool) where
  -- w is the best front of n symbols that ends in q
  pub record Leads (n q : ℕ) (w : List ℕ) : Type 0 where
    pub front : Front a may w
    pub best : (v : List ℕ) → length (q ∷ v) ≡ n → Front a may (q ∷ v) → Rules compared (rank_back start stepped tags) w (q ∷ v)

  -- what is known after n symbols: each live position has its best front in the table, and the measure of that; every front ends in a
  -- live position
  pub record Cells (n live : ℕ) (measures : List M) (back : List (List ℕ)) : Type 0 where
    pub low : (q : ℕ) → In live q → q < 64
    pub leads : (q : ℕ) → In live q → Leads n q (back_from back n q)
    pub measure : (q : ℕ) → In live q → get_or measures q start ≡ rank_back start stepped tags (back_from back n q)
    pub complete : (q : ℕ) (v : List ℕ) → length (q ∷ v) ≡ n → Front a may (q ∷ v) → In live q
