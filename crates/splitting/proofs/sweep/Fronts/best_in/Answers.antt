use Rattle.std.proofs.Common.{true, false}
use Rattle.automaton.proofs.Bits.{in_and}
use Rattle.splitting.proofs.BitLoops.{given}
use Rattle.splitting.proofs.Choosing.{turned}
use Rattle.splitting.proofs.Nearness.{live_near}
use Rattle.splitting.proofs.sweep.Fronts.best_in.Goals as goal

pub is_higher-requires : goal.is_higher-requires
is_higher-requires g c =
    let inv = c.loop-p.invariant in
    ((in_and {x = c.args.self.now.live} {y = c.args.set} (given inv.left c.in-Some.ensures.steps)).0, (in_and {x = c.args.self.now.live} {y = c.args.set} inv.best.candidate.0).0)

pub loop-p-preserved : goal.loop-p-preserved
loop-p-preserved g c =
    let f = c.args.self.now in
    let inv = c.loop-p.invariant in
    let near = live_near (g.R.Ranking.start f.ranking.now) (g.R.Ranking.stepped f.ranking.now) f.tags.now f.sets f.back.now f.symbols f.live f.measures.now f.short f.measured in
    let next = turned (g.met.R.Ranking.lawful f.ranking.now) f.live c.args.set near inv.left c.in-Some.ensures.steps inv.best false c.if-is_higher.ensures in
    record { left = next.0; best = next.1 }

pub loop-p-preserved-then-is_higher : goal.loop-p-preserved-then-is_higher
loop-p-preserved-then-is_higher g c =
    let f = c.args.self.now in
    let inv = c.loop-p.invariant in
    let near = live_near (g.R.Ranking.start f.ranking.now) (g.R.Ranking.stepped f.ranking.now) f.tags.now f.sets f.back.now f.symbols f.live f.measures.now f.short f.measured in
    let next = turned (g.met.R.Ranking.lawful f.ranking.now) f.live c.args.set near inv.left c.in-Some.ensures.steps inv.best true c.if-is_higher.ensures in
    record { left = next.0; best = next.1 }
