use Rattle.std.proofs.Common.{ℕ, ◌⊎◌, get_or}
use Rattle.automaton.specs.Bit.{In}
use Rattle.automaton.proofs.sweep.onward.Given as goal

abbrev pub invariant-loop-p : goal.invariant-loop-p
invariant-loop-p l =
    ((q : ℕ) → In l.out q → (p : ℕ) × In l.positions p × In (get_or l.follow p 0) q)
    × ((p : ℕ) → In l.p-iterator.left p → In l.positions p)
    × ((p q : ℕ) → In l.positions p → In (get_or l.follow p 0) q → In l.p-iterator.left p ⊎ In l.out q)
