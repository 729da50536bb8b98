use Rattle.std.proofs.Common.{◌≡◌, get_or, refl}
use Rattle.splitting.proofs.BitLoops.{all_left, left_next}
use Rattle.splitting.proofs.Following.{none_done, offered, all_tried}
use Rattle.splitting.proofs.Nearness.{live_near}
use Rattle.splitting.proofs.Tables.{low_row}
use Rattle.splitting.proofs.sweep.Fronts.follow_on.Goals as goal

pub loop-p-init : goal.loop-p-init
loop-p-init g c =
    let f = c.args.self.now in
    let whole : c.into_iter-p-iterator.result.left ≡ c.args.self.now.live = cc in
    record {
      left = all_left whole;
      reached = none_done (g.R.Ranking.compared f.ranking.now) (λ p. get_or f.measures.now p (g.R.Ranking.start f.ranking.now)) c.args.automaton.now.follow f.live c.args.row _ _ whole (low_row 64);
      lowest = λ n. absurd (n refl);
    }

pub loop-p-preserved : goal.loop-p-preserved
loop-p-preserved g c =
    let f = c.args.self.now in
    let inv = c.loop-p.invariant in
    let next = c.in-Some.ensures.steps in
    let near = live_near (g.R.Ranking.start f.ranking.now) (g.R.Ranking.stepped f.ranking.now) f.tags.now f.sets f.back.now f.symbols f.live f.measures.now f.short f.measured in record {
      left = left_next inv.left next;
      reached = offered (g.R.Ranking.compared f.ranking.now) (λ p. get_or f.measures.now p (g.R.Ranking.start f.ranking.now)) c.args.automaton.now.follow f.live c.args.row
          (g.met.R.Ranking.lawful f.ranking.now) near c.loop-p.positions c.loop-p.previous c.offer_next-lowest.new.previous inv.left next inv.reached c.offer_next-lowest.ensures.offered;
      lowest = λ _. c.offer_next-lowest.ensures.lowest;
    }

pub returns : goal.returns
returns g c = all_tried c.loop-p.invariant.reached c.in-None.ensures.steps.0
