use Rattle.std.proofs.Common.{get_or}
use Rattle.splitting.proofs.BitLoops.{Left}
use Rattle.splitting.proofs.Offering.{Offering}
use Rattle.splitting.proofs.sweep.Fronts.offer.Given as goal

abbrev pub invariant-loop-q : goal.invariant-loop-q
invariant-loop-q g l = record {
  left : Left l.onto l.q-iterator.left;
  offered : Offering (g.R.Ranking.compared l.self.ranking.now) (λ p. get_or l.self.measures.now p (g.R.Ranking.start l.self.ranking.now)) l.p l.onto l.q-iterator.left l.reached l.initial.previous l.previous;
}
