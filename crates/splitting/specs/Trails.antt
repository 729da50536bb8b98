-- The trails of a stretch of symbols, and which of them is best. A trail is a list of positions of an automaton, one for each symbol,
-- from the first symbol to the last. (Here all is said by positions. Crate `shelf` says trails and what they admit by words of tests
-- alone, and proves that the two come to the same.)
use Rattle.std.specs.Prelude.{◌≡◌, ℕ, ◌<◌, ◌≤◌, Bool, true, List, [], ◌∷◌, map, length, take, drop, Ok, Err, Result, slice_index}
use Rattle.std.specs.declared.cmp.Ordering.TheVariants.{Less, Equal}
use Rattle.std.specs.declared.cmp.Ordering.{Ordering}
use Rattle.automaton.specs.declared.machine.Automaton.{Automaton}
use Rattle.automaton.specs.Reads.{Walk, tests_of}
use Rattle.ranking.specs.Ranks.{rank_of}
use Rattle.splitting.specs.declared.Unsplit.{Unsplit}
use Rattle.splitting.specs.declared.Unsplit.TheVariants.{NoRoom, NoTrail}

-- there is one position for each symbol; it is below 64, it has one of the codes, of which there are so many, and its test admits the
-- symbol
abbrev pub Admitted : {S : Type 0} → (ℕ → S → Bool) → ℕ → List S → List ℕ → Type 0
Admitted admits codes [] [] = Unit {0}
Admitted admits codes [] (q ∷ t) = ⊥
Admitted admits codes (s ∷ stretch) [] = ⊥
Admitted admits codes (s ∷ stretch) (q ∷ t) = (q < 64) × (q < codes) × (admits q s ≡ true) × Admitted admits codes stretch t

-- a trail of a stretch: a walk of the automaton whose positions admit the symbols, one each
pub record Trail {S : Type 0} (a : Automaton) (admits : ℕ → S → Bool) (codes : ℕ) (stretch : List S) (t : List ℕ) : Type 0 where
  pub walk : Walk a t
  pub admitted : Admitted admits codes stretch t

-- the tag sets along a trail, one for each symbol: that of its position
abbrev pub sets_along : List ℕ → List ℕ → List ℕ
sets_along tags t = map (λ q. slice_index tags q) t

-- the tie order: at the last symbol at which the two differ, t has the smaller number
pub record Before (t u : List ℕ) : Type 0 where
  pub place : ℕ
  pub within : place < length t
  pub lower : slice_index t place < slice_index u place
  pub after : (j : ℕ) → place < j → j < length t → slice_index t j ≡ slice_index u j

-- u is t, or ranks lower than t, or ranks equal and comes later in the tie order
pub data Over {M : Type 0} (rank : List ℕ → M) (compared : M → M → Ordering) (t u : List ℕ) : Type 0 where
  same : u ≡ t → Over rank compared t u
  higher : compared (rank u) (rank t) ≡ Less → Over rank compared t u
  earlier : compared (rank u) (rank t) ≡ Equal → Before t u → Over rank compared t u

-- whatever it is that makes a list of numbers a trail: t is one, and every other ranks lower, or ranks equal and comes later in the
-- tie order
pub record Best {M : Type 0} (IsTrail : List ℕ → Type 0) (rank : List ℕ → M) (compared : M → M → Ordering) (t : List ℕ) : Type 0 where
  pub trail : IsTrail t
  pub over : (u : List ℕ) → IsTrail u → Over rank compared t u

-- there is room for the answer: the stretch has at most 160 symbols, the bytes for the trail are as many, and the work has 128 measures
abbrev pub Room : ℕ → ℕ → ℕ → Type 0
Room symbols bytes measures = (symbols ≤ 160) × (symbols ≤ bytes) × (128 ≤ measures)

module _ {S M : Type 0} (start : M) (stepped : M → ℕ → M) (compared : M → M → Ordering) (a : Automaton) (admits : ℕ → S → Bool) (codes : ℕ) (tags : List ℕ) (stretch : List S) where
  -- the best trail is written at the front of the bytes, in place of what they held before, and what stands behind is as it was
  pub record Written (before after : List ℕ) : Type 0 where
    pub positions : List ℕ
    pub best : Best (Trail a admits codes stretch) (λ t. rank_of start stepped (sets_along tags t)) compared positions
    pub front : take (length stretch) after ≡ tests_of positions
    pub rest : drop (length stretch) after ≡ drop (length stretch) before

  -- what is answered: that there is no room, or else that there is no trail, or else the best one is written
  abbrev pub BestTrail : ℕ → List ℕ → List ℕ → Result (Unit {0}) Unsplit → Type 0
  BestTrail measures before after (Err NoRoom) = (Room (length stretch) (length before) measures → ⊥) × (after ≡ before)
  BestTrail measures before after (Ok _) = Room (length stretch) (length before) measures × Written before after
  BestTrail measures before after (Err NoTrail) = Room (length stretch) (length before) measures × ((t : List ℕ) → Trail a admits codes stretch t → ⊥) × (after ≡ before)
