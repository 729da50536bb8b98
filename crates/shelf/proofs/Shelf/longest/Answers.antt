use Rattle.automaton.specs.RowList.{rows_of}
use Rattle.shelf.proofs.Answering.{longest_found}
use Rattle.shelf.proofs.HistorySteps.{longest_in_history}
use Rattle.shelf.proofs.Shelf.longest.Goals as goal

pub returns-clause-longest_or_refusal : goal.returns-clause-longest_or_refusal
returns-clause-longest_or_refusal g c =
    let meaning = g.N.Alphabet.meaning c.args.self.now.notation in
    let line = c.args.line.now in
    let by = c.in_ok-automaton.ensures in
    rw (by.1, c.ok_or.ensures.value) (longest_found meaning line by.0 c.in_ok-automaton.automaton.now (rows_of c.in_ok-automaton.rows) by.2 c.longest.result c.longest.ensures)

pub returns-clause-right_in_every_history : goal.returns-clause-right_in_every_history
returns-clause-right_in_every_history g c =
    longest_in_history g.N.Alphabet.meaning g.N.Notation.reading c.args.self.now c.args.place c.args.line.now c.ok_or.result (returns-clause-longest_or_refusal g c)
