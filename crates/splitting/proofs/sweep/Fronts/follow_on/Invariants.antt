use Rattle.std.proofs.Common.{◌≡◌, get_or}
use Rattle.splitting.specs.Steps.{LowestBefore}
use Rattle.splitting.proofs.BitLoops.{Left}
use Rattle.splitting.proofs.Following.{SoFar}
use Rattle.splitting.proofs.sweep.Fronts.follow_on.Given as goal

abbrev pub invariant-loop-p : goal.invariant-loop-p
invariant-loop-p g l = record {
  left : Left l.self.live l.p-iterator.left;
  reached : SoFar (g.R.Ranking.compared l.self.ranking.now) (λ p. get_or l.self.measures.now p (g.R.Ranking.start l.self.ranking.now)) l.automaton.follow l.self.live l.p-iterator.left l.row l.positions l.previous;
  lowest : (l.positions ≡ 0 → ⊥) → LowestBefore (g.R.Ranking.compared l.self.ranking.now) (λ p. get_or l.self.measures.now p (g.R.Ranking.start l.self.ranking.now)) l.self.live l.positions l.previous l.lowest;
}
