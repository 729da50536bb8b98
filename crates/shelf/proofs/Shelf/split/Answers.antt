use Rattle.std.proofs.Common.{◌≤◌, length, arith}
use Rattle.std.proofs.lemmas.Result.{err_from_is_err_and}
use Rattle.pattern.specs.Patterns.{syntax}
use Rattle.shelf.proofs.HistorySteps.{splitting_in_history}
use Rattle.shelf.proofs.Splitting.{rooms_asked, not_split, split_done}
use Rattle.shelf.proofs.Shelf.split.Goals as goal

pub returns-in_err-best_trail-clause-split_or_refusal : goal.returns-in_err-best_trail-clause-split_or_refusal
returns-in_err-best_trail-clause-split_or_refusal g c =
    let x = syntax c.in_ok-pattern.pattern.now in
    let ends = (rw c.in_ok-stretch.ensures.ok_part at c.get.ensures.lookup).0 in
    let short : length c.args.line.now ≤ 160 = omega (arith, c.if-line-gt-MOST_SYMBOLS.false) in
    let asked = rooms_asked c.args.self.now.places c.args.place (length c.args.line.now) c.args.left c.args.right (length c.args.trail.now) (length c.args.work.now) x c.in_ok-pattern.ensures.pattern_or_refusal short ends.0 ends.1 in
    let e = err_from_is_err_and c.from_residual-in_err-best_trail.result c.from_residual-in_err-best_trail.ensures.1 in
    rw (asked, e.1, e.2)
    (not_split _ _ _ _ x _ c.automaton.ensures _ c.codes.ensures.codes c.codes.ensures.few _ c.tag_sets-sets.ensures c.args.line.now _ c.args.left c.args.right ends.2 ends.3 (omega (arith, ends.1, short)) _ c.args.trail.now _ _ _ c.in_err-best_trail.ensures)

pub returns-clause-split_or_refusal : goal.returns-clause-split_or_refusal
returns-clause-split_or_refusal g c =
    let x = syntax c.in_ok-pattern.pattern.now in
    let ends = (rw c.in_ok-stretch.ensures.ok_part at c.get.ensures.lookup).0 in
    let short : length c.args.line.now ≤ 160 = omega (arith, c.if-line-gt-MOST_SYMBOLS.false) in
    let asked = rooms_asked c.args.self.now.places c.args.place (length c.args.line.now) c.args.left c.args.right (length c.args.trail.now) (length c.args.work.now) x c.in_ok-pattern.ensures.pattern_or_refusal short ends.0 ends.1 in
    rw asked
    (split_done _ _ _ _ x _ c.automaton.ensures _ c.codes.ensures.codes c.codes.ensures.few _ c.tag_sets-sets.ensures c.args.line.now _ c.args.left c.args.right ends.2 ends.3 (omega (arith, ends.1, short)) _ c.args.trail.now _ _ _ c.in_ok-best_trail.ensures c.parts_along.ensures)

pub returns-in_err-best_trail-clause-right_in_every_history : goal.returns-in_err-best_trail-clause-right_in_every_history
returns-in_err-best_trail-clause-right_in_every_history g c =
    let a = c.args in
    let ranking = a.ranking.now in
    splitting_in_history g.N.Alphabet.meaning g.N.Notation.reading (g.R.Ranking.start ranking) (g.R.Ranking.stepped ranking) (g.R.Ranking.compared ranking) a.self.now a.place a.line.now a.left a.right (length a.work.now) a.trail.now _ a.sheet.now.entries _ _
    (returns-in_err-best_trail-clause-split_or_refusal g c)

pub returns-clause-right_in_every_history : goal.returns-clause-right_in_every_history
returns-clause-right_in_every_history g c =
    let a = c.args in
    let ranking = a.ranking.now in
    splitting_in_history g.N.Alphabet.meaning g.N.Notation.reading (g.R.Ranking.start ranking) (g.R.Ranking.stepped ranking) (g.R.Ranking.compared ranking) a.self.now a.place a.line.now a.left a.right (length a.work.now) a.trail.now _ a.sheet.now.entries _ _
    (returns-clause-split_or_refusal g c)
