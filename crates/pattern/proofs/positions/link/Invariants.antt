use Rattle.std.proofs.Common.{◌≡◌, ℕ, ◌<◌, ◌⊎◌, length, get_or}
use Rattle.automaton.specs.Bit.{In}
use Rattle.pattern.proofs.positions.link.Given as goal

abbrev pub invariant-loop-p : goal.invariant-loop-p
invariant-loop-p l =
    (length l.follow ≡ length l.initial.follow)
    × ((p : ℕ) → In l.p-iterator.left p → In l.from p)
    × ((p q : ℕ) → In (get_or l.follow p 0) q → In (get_or l.initial.follow p 0) q ⊎ (In l.from p × In l.to q))
    × ((p q : ℕ) → In (get_or l.initial.follow p 0) q → In (get_or l.follow p 0) q)
    × ((p q : ℕ) → p < 64 → In l.from p → In l.to q → In l.p-iterator.left p ⊎ In (get_or l.follow p 0) q)
