use Rattle.std.proofs.Common.{◌≡◌, ℕ, ◌^◌, ◌<◌, false, ◌⊎◌, get_or, sym, ◌∙◌, inl, inr, rules}
use Rattle.std.specs.Ordering.{is_gt}
use Rattle.splitting.specs.Steps.{LowestBefore}
use Rattle.splitting.proofs.Lowest.{lowest_stays, offered_to_others, lowest_next}
use Rattle.splitting.proofs.Nearness.{live_near}
use Rattle.splitting.proofs.sweep.Fronts.offer_next.Goals as goal
use Rattle.splitting.proofs.sweep.Fronts.offer_next.Goals.{else-reached-ne0-via-then-reached-ne0+else-is_higher, else-reached-ne0-via-else-reached-ne0}

-- p was offered to all
pub returns-then-is_higher-clause-lowest : goal.returns-then-is_higher-clause-lowest
returns-then-is_higher-clause-lowest g c =
    let f = c.args.self.now in
    let near = live_near (g.R.Ranking.start f.ranking.now) (g.R.Ranking.stepped f.ranking.now) f.tags.now f.sets f.back.now f.symbols f.live f.measures.now f.short f.measured in
    lowest_stays (g.met.R.Ranking.lawful f.ranking.now) (λ p. get_or f.measures.now p (g.R.Ranking.start f.ranking.now)) f.live near c.args.p c.args.onto c.args.reached
    c.args.previous.now c.offer.new.previous c.requires.live_p c.args.lowest (c.requires.lowest c.if-reached-ne0.true) (sym c.if-is_higher.true ∙ c.is_higher.ensures) c.offer.ensures

-- p was offered to those that were not reached
pub returns : goal.returns
returns g c =
    let f = c.args.self.now in
    let near = live_near (g.R.Ranking.start f.ranking.now) (g.R.Ranking.stepped f.ranking.now) f.tags.now f.sets f.back.now f.symbols f.live f.measures.now f.short f.measured in
    let compared = g.R.Ranking.compared f.ranking.now in
    let m : ℕ → g.row.R-Measure.Denot = λ p. get_or f.measures.now p (g.R.Ranking.start f.ranking.now) in
    let law = g.met.R.Ranking.lawful f.ranking.now in
    let small : c.args.onto < 2 ^ 64 = search rules in
    let room : c.args.reached < 2 ^ 64 = search rules in
    let no_higher : (c.args.reached ≡ 0) ⊎ (LowestBefore compared m f.live c.args.reached c.args.previous.now c.args.lowest × (false ≡ is_gt (compared (m c.args.p) (m c.args.lowest)))) =
    elim c.else-reached-ne0.branch [
      | else-reached-ne0-via-then-reached-ne0+else-is_higher w ↦ inr (c.requires.lowest w.if-reached-ne0.true, sym w.if-is_higher.false ∙ w.is_higher.ensures)
      | else-reached-ne0-via-else-reached-ne0 w ↦ inl w.if-reached-ne0.false
    ] in record {
      offered = offered_to_others law m f.live near c.args.p c.args.onto c.args.reached c.args.previous.now c.offer-2.new.previous c.requires.live_p small room c.args.lowest
          c.requires.live_reached no_higher c.offer-2.ensures;
      lowest = lowest_next law m f.live near c.args.p c.args.onto c.args.reached c.args.previous.now c.offer-2.new.previous c.requires.live_p small room c.args.lowest
          c.requires.live_reached no_higher c.offer-2.ensures;
    }
