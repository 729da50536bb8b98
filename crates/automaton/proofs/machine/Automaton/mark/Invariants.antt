use Rattle.automaton.specs.RowList.{rows_of}
use Rattle.automaton.proofs.Marking.{Marking}
use Rattle.automaton.proofs.machine.Automaton.mark.Given as goal

abbrev pub invariant-loop-i : goal.invariant-loop-i
invariant-loop-i l = Marking l.self (rows_of l.rows) l.leasts l.initial.buffer l.buffer l.low l.count l.i
