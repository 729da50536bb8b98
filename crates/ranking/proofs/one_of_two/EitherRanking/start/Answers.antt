use Rattle.either.specs.declared.Either.TheVariants.{Left, Right}
use Rattle.ranking.proofs.Likeness.{either_alike}
use Rattle.ranking.proofs.one_of_two.EitherRanking.start.Goals as goal

pub returns-in-Left-clause-ranks_as_the_one_there : goal.returns-in-Left-clause-ranks_as_the_one_there
returns-in-Left-clause-ranks_as_the_one_there g c =
    let q = g.Q.Ranking in
    let r = g.R.Ranking in
    rw (c.in-Left.is, c.start.ensures) (either_alike q.start q.stepped q.compared r.start r.stepped r.compared (Left c.in-Left.ranking))

pub returns-in-Right-clause-ranks_as_the_one_there : goal.returns-in-Right-clause-ranks_as_the_one_there
returns-in-Right-clause-ranks_as_the_one_there g c =
    let q = g.Q.Ranking in
    let r = g.R.Ranking in
    rw (c.in-Right.is, c.start-in-Right.ensures) (either_alike q.start q.stepped q.compared r.start r.stepped r.compared (Right c.in-Right.ranking))
