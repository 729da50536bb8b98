use Rattle.automaton.specs.RowList.{rows_of}
use Rattle.shelf.proofs.Answering.{marks_made}
use Rattle.shelf.proofs.HistorySteps.{marking_in_history}
use Rattle.shelf.proofs.Shelf.mark.Goals as goal

pub returns-clause-marks_or_refusal : goal.returns-clause-marks_or_refusal
returns-clause-marks_or_refusal g c =
    let meaning = g.N.Alphabet.meaning c.args.self.now.notation in
    let line = c.args.line.now in
    let by = c.in_ok-automaton.ensures in
    rw (by.1, c.ok_or.ensures.value) (marks_made meaning line by.0 c.in_ok-automaton.automaton.now (rows_of c.in_ok-automaton.rows) by.2 c.args.buffer.now c.mark.new.buffer c.mark.result c.mark.ensures)

pub returns-clause-right_in_every_history : goal.returns-clause-right_in_every_history
returns-clause-right_in_every_history g c =
    marking_in_history g.N.Alphabet.meaning g.N.Notation.reading c.args.self.now c.args.place c.args.line.now c.args.buffer.now c.mark.new.buffer c.ok_or.result (returns-clause-marks_or_refusal g c)
