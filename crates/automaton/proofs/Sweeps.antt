-- One turn of a loop over a sweep.
use Rattle.std.proofs.Common.{◌≡◌, ℕ, ◌+◌, Option, Some, None, List, length, sym, ap, ◌∙◌, subst, arith}
use Rattle.automaton.specs.declared.machine.Automaton.{Automaton}
use Rattle.automaton.specs.declared.sweep.Sweep.{Sweep}
use Rattle.automaton.specs.Tracks.{Earliest, GivesEarliest}

-- the sweep is one of the automaton over the rows
pub record Sweeps (a : Automaton) (rows : List ℕ) (s : Sweep) : Type 0 where
  pub by : s.automaton.now ≡ a
  pub over : s.rows.now ≡ rows

-- what a turn from s to t gives, where i is the symbol's place and o the least start
pub record Turned (a : Automaton) (rows : List ℕ) (s t : Sweep) (i : ℕ) (o : Option ℕ) : Type 0 where
  pub sweeps : Sweeps a rows t
  pub place : s.read ≡ i
  pub read : t.read ≡ i + 1
  pub earliest : Earliest a rows (i + 1) o

module _ (a : Automaton) (rows : List ℕ) (s t : Sweep) (w : Sweeps a rows s) where
  pub turned : (i : ℕ) (o : Option ℕ) → GivesEarliest s (Some (i, o)) t → Turned a rows s t i o
  turned i o g =
      let read : t.read ≡ i + 1 = omega (arith, g.0, g.3) in record {
        sweeps = record { by = ap (λ a. a.now) g.1 ∙ w.by; over = ap (λ r. r.now) g.2 ∙ w.over };
        place = sym g.0;
        read = read;
        earliest = subst (λ a. Earliest a rows (i + 1) o) w.by (subst (λ r. Earliest s.automaton.now r (i + 1) o) w.over (subst (λ n. Earliest s.automaton.now s.rows.now n o) read g.4));
      }

  pub all_read : GivesEarliest s None t → s.read ≡ length rows
  all_read g = g.0 ∙ ap length w.over
