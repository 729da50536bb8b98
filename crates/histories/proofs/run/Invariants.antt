use Rattle.histories.proofs.OneMore.{AsFar}
use Rattle.histories.proofs.run.Given as goal

abbrev pub invariant-loop-i : goal.invariant-loop-i
invariant-loop-i g l = AsFar g.R.Ranking.start g.R.Ranking.stepped g.R.Ranking.compared g.N.Alphabet.meaning g.N.Notation.reading l.fn.notation l.initial.calls l.initial.answers l.i l.calls l.answers l.shelf
