use Rattle.either.specs.Either.{map_either}
use Rattle.ranking.specs.OneOfTwo.{step_either, compare_either, start_there, stepped_there, compared_there}
use Rattle.ranking.proofs.Likeness.{either_alike}
use Rattle.histories.proofs.Likeness.{run_alike}
use Rattle.histories.proofs.run_mixed.Goals as goal

pub returns : goal.returns
returns g c =
    let q = g.Q.Ranking in
    let r = g.R.Ranking in
    run_alike (map_either q.start r.start) (step_either q.stepped r.stepped) (compare_either q.compared r.compared)
    (start_there q.start r.start) (stepped_there q.stepped r.stepped) (compared_there q.compared r.compared)
    (either_alike q.start q.stepped q.compared r.start r.stepped r.compared)
    g.N.Alphabet.meaning g.N.Notation.reading c.args.notation c.args.calls.now c.run.new.calls c.args.answers.now c.run.new.answers c.run.result.0 c.run.result.1 c.run.ensures
