use Rattle.ranking.specs.Sides.{near_left, near_right}
use Rattle.ranking.proofs.one_of_two.EitherRanking.compare.Goals as goal

pub compare-requires : goal.compare-requires
compare-requires g c =
    let l = c.in-Left-Left-Left in (
      near_left g.Q.Ranking.start g.Q.Ranking.stepped g.R.Ranking.start g.R.Ranking.stepped l.ranking l.a l.is-0 l.is-1 c.requires.0,
      near_left g.Q.Ranking.start g.Q.Ranking.stepped g.R.Ranking.start g.R.Ranking.stepped l.ranking l.b l.is-0 l.is-2 c.requires.1,
    )

pub compare-requires-in-Right-Right-Right : goal.compare-requires-in-Right-Right-Right
compare-requires-in-Right-Right-Right g c =
    let r = c.in-Right-Right-Right in (
      near_right g.Q.Ranking.start g.Q.Ranking.stepped g.R.Ranking.start g.R.Ranking.stepped r.ranking r.a r.is-0 r.is-1 c.requires.0,
      near_right g.Q.Ranking.start g.Q.Ranking.stepped g.R.Ranking.start g.R.Ranking.stepped r.ranking r.b r.is-0 r.is-2 c.requires.1,
    )
