use Rattle.std.proofs.Common.{drop, ◌∙◌, arith}
use Rattle.pattern.proofs.Cuts.{same_first, listed_more}
use Rattle.pattern.proofs.cutter.cut.Goals as goal

pub loop-at-preserved : goal.loop-at-preserved
loop-at-preserved g c =
    let inv = c.loop-at.invariant in
    let e = c.first_token-kind.ensures in
    let reading = g.N.Notation.reading c.args.notation.now in
    let bytes = c.args.bytes.now in
    let at = c.loop-at.at in
    let first = e.value ∙ same_first _ reading inv.4 at (drop at bytes) in (
      omega (arith, inv.0, e.takes_some.0, c.push.ensures.len),
      e.takes_some.1,
      rw c.push.ensures.items (listed_more reading bytes c.loop-at.list.items at _ _ first e.takes_some.0 e.takes_some.1 inv.2),
      e.keeps_meaning ∙ inv.3,
      λ bytes b. e.keeps_reading bytes b ∙ inv.4 bytes b,
    )
