use Rattle.std.proofs.Common.{◌<◌, length, arith}
use Rattle.histories.proofs.OneMore.{one_more}
use Rattle.histories.proofs.run.Goals as goal

pub loop-i-preserved : goal.loop-i-preserved
loop-i-preserved g c =
    let room : c.loop-i.i < length c.loop-i.answers = omega arith in
    one_more g.R.Ranking.start g.R.Ranking.stepped g.R.Ranking.compared g.N.Alphabet.meaning g.N.Notation.reading c.args.notation c.args.calls.now c.args.answers.now c.loop-i.i c.loop-i.calls c.loop-i.answers c.loop-i.shelf c.make.new.shelf
    c.index-calls-i.result c.make.new.call c.make.result c.loop-i-test.true c.loop-i.auto.calls room c.loop-i.invariant c.make.ensures
