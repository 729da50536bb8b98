use Rattle.automaton.specs.RowList.{rows_of}
use Rattle.automaton.proofs.Ends.{Best}
use Rattle.automaton.proofs.Sweeps.{Sweeps}
use Rattle.automaton.proofs.machine.Automaton.longest.Given as goal

abbrev pub invariant-loop-i : goal.invariant-loop-i
invariant-loop-i l =
    (goal.iterator-loop-i).can_next l.i-iterator × (goal.iterator-loop-i).is_finite l.i-iterator × Sweeps l.self (rows_of l.rows) l.i-iterator
    × Best l.self (rows_of l.rows) l.i-iterator.read l.best
