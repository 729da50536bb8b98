use Rattle.ranking.proofs.Reaching.{further}
use Rattle.splitting.proofs.sweep.Fronts.is_higher.Goals as goal

pub compare-requires : goal.compare-requires
compare-requires g c =
    let short = c.args.self.now.short in
    (further 160 short c.measure.ensures.near, further 160 short c.measure-2.ensures.near)
