use Rattle.ranking.specs.Laws.{at_start}
use Rattle.splitting.proofs.sweep.Fronts.begin.Goals as goal

pub step-requires : goal.step-requires
step-requires g c = rw c.start.ensures at_start
