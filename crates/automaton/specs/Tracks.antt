-- What the functions of the sweep keep from symbol to symbol.
use Rattle.std.specs.Prelude.{◌≡◌, ℕ, ◌+◌, ◌<◌, ◌≤◌, true, List, length, Option, Some, None, MatchOption, slice_index}
use Rattle.automaton.specs.declared.machine.Automaton.{Automaton}
use Rattle.automaton.specs.declared.sweep.Active.{Active}
use Rattle.automaton.specs.declared.sweep.Sweep.{Sweep}
use Rattle.automaton.specs.Bit.{In}

-- a walk that begins at the symbol l has the position q at the last of the symbols before i
pub data After (a : Automaton) (rows : List ℕ) (l : ℕ) : ℕ → ℕ → Type 0 where
  begin : {i q : ℕ} → i ≡ l + 1 → l < length rows → In a.first q → In (slice_index rows l) q → After a rows l i q
  step : {i j p q : ℕ} → After a rows l j p → i ≡ j + 1 → j < length rows → In (slice_index a.follow p) q → In (slice_index rows j) q → After a rows l i q

-- the stretch from l to r reads, by the last position of its walk
pub data Ends (a : Automaton) (rows : List ℕ) (l r : ℕ) : Type 0 where
  empty : l ≡ r → r ≤ length rows → a.nullable ≡ true → Ends a rows l r
  walk : (q : ℕ) → After a rows l r q → In a.last q → Ends a rows l r

-- e is the least start of a stretch to r that is not empty and reads
pub record First (a : Automaton) (rows : List ℕ) (r e : ℕ) : Type 0 where
  pub below : e < r
  pub reads : Ends a rows e r
  pub first : (l : ℕ) → l < r → Ends a rows l r → e ≤ l

-- that start, or `None` where no stretch to r that is not empty reads
abbrev pub Earliest : Automaton → List ℕ → ℕ → Option ℕ → Type 0
Earliest a rows r None = (l : ℕ) → l < r → Ends a rows l r → ⊥
Earliest a rows r (Some e) = First a rows r e

-- the groups after i symbols: rising starts, each with positions that a walk from it has reached, and each position that is reached
-- from some start is in the group of that start or of an earlier one; no position is in two groups
pub record Tracks (a : Automaton) (rows : List ℕ) (i : ℕ) (g : Active) : Type 0 where
  pub few : g.count ≤ i
  pub rising : (j k : ℕ) → j < k → k < g.count → slice_index g.starts j ≤ slice_index g.starts k
  pub begun : (k : ℕ) → k < g.count → slice_index g.starts k < i
  pub sound : (k q : ℕ) → k < g.count → In (slice_index g.sets k) q → After a rows (slice_index g.starts k) i q
  pub complete : (l q : ℕ) → After a rows l i q → (k : ℕ) × (k < g.count) × (slice_index g.starts k ≤ l) × In (slice_index g.sets k) q
  pub apart : (j k q : ℕ) → j < k → k < g.count → In (slice_index g.sets j) q → In (slice_index g.sets k) q → ⊥

-- the groups of a sweep are those after the symbols that it has read
abbrev pub Swept : Sweep → Type 0
Swept s = Tracks s.automaton.now s.rows.now s.read s.active

-- a call of `next` reads one symbol more, and gives its place and the least start of a stretch that ends after it and reads; where all
-- are read it gives `None`
abbrev pub GivesEarliest : Sweep → Option (ℕ × Option ℕ) → Sweep → Type 0
GivesEarliest s r t = MatchOption r ((s.read ≡ length s.rows.now) × (t ≡ s))
    (λ x. (x.0 ≡ s.read) × (t.automaton ≡ s.automaton) × (t.rows ≡ s.rows) × (t.read ≡ s.read + 1) × Earliest s.automaton.now s.rows.now t.read x.1)
