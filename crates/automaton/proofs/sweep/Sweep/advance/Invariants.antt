use Rattle.std.proofs.Common.{◌≡◌}
use Rattle.automaton.proofs.Turns.{Turn}
use Rattle.automaton.proofs.sweep.Sweep.advance.Given as goal

abbrev pub invariant-loop-k : goal.invariant-loop-k
invariant-loop-k l =
    Turn l.fn.self.automaton.now l.fn.self.rows.now l.fn.self.read l.fn.self.active l.groups.starts l.groups.sets l.k l.live l.taken
    × (l.groups.count ≡ l.fn.self.active.count)
