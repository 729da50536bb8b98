use Rattle.std.proofs.Common.{◌<◌, length, sym, ◌∙◌, arith}
use Rattle.std.proofs.lemmas.List.{get_or_read}
use Rattle.splitting.proofs.Nearness.{front_near}
use Rattle.splitting.proofs.sweep.Fronts.measure.Goals as goal

pub returns-clause-near : goal.returns-clause-near
returns-clause-near g c =
    let f = c.args.self.now in
    let start = g.R.Ranking.start c.args.self.now.ranking.now in
    let inside : c.args.p < length c.args.self.now.measures.now = omega (arith, f.low c.args.p c.requires, f.room) in
    front_near start (g.R.Ranking.stepped f.ranking.now) f.tags.now f.sets f.back.now f.symbols f.symbols c.args.p _ (omega arith)
    (sym c.index-self-p.is ∙ get_or_read f.measures.now c.args.p c.index-self-p.result inside c.index-self-p.is start ∙ f.measured c.args.p c.requires)
