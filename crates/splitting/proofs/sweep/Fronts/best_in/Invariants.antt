use Rattle.std.proofs.Common.{get_or}
use lib.Bits.{bit_and}
use Rattle.splitting.specs.Choice.{Pick}
use Rattle.splitting.proofs.BitLoops.{Left}
use Rattle.splitting.proofs.Choosing.{Done}
use Rattle.splitting.proofs.sweep.Fronts.best_in.Given as goal

abbrev pub invariant-loop-p : goal.invariant-loop-p
invariant-loop-p g l = record {
  left : Left (bit_and l.self.live l.set) l.p-iterator.left;
  best : Pick (g.R.Ranking.compared l.self.ranking.now) (λ p. get_or l.self.measures.now p (g.R.Ranking.start l.self.ranking.now)) (Done (bit_and l.self.live l.set) l.p-iterator.left) l.best;
}
