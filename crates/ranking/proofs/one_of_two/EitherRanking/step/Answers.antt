use Rattle.ranking.specs.Sides.{near_left, near_right}
use Rattle.ranking.proofs.one_of_two.EitherRanking.step.Goals as goal

pub step-requires : goal.step-requires
step-requires g c = let l = c.in-Left-Left in near_left g.Q.Ranking.start g.Q.Ranking.stepped g.R.Ranking.start g.R.Ranking.stepped l.ranking l.measure l.is-0 l.is-1 c.requires

pub step-requires-in-Right-Right : goal.step-requires-in-Right-Right
step-requires-in-Right-Right g c = let r = c.in-Right-Right in near_right g.Q.Ranking.start g.Q.Ranking.stepped g.R.Ranking.start g.R.Ranking.stepped r.ranking r.measure r.is-0 r.is-1 c.requires
