use Rattle.std.proofs.Common.{◌≡◌, ℕ, ◌+◌, ◌<◌, None, length, get_or}
use Rattle.automaton.specs.Tracks.{Earliest}
use Rattle.automaton.proofs.Sweeps.{Sweeps}
use Rattle.automaton.proofs.machine.Automaton.leasts.Given as goal

abbrev pub invariant-loop-i : goal.invariant-loop-i
invariant-loop-i l =
    (goal.iterator-loop-i).can_next l.i-iterator × (goal.iterator-loop-i).is_finite l.i-iterator × Sweeps l.self l.rows l.i-iterator × (length l.out ≡ 160)
    × ((k : ℕ) → k < l.i-iterator.read → Earliest l.self l.rows (k + 1) (get_or l.out k None))
