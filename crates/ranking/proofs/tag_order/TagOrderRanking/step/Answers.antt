use Rattle.std.proofs.Common.{◌≡◌, length, sym, ◌∙◌, arith}
use Rattle.std.proofs.lemmas.List.{ext_get_or}
use Rattle.ranking.specs.TagLengths.{longer_by}
use Rattle.ranking.specs.Lengths.{longer_length, longer_at, no_longer, eight}
use Rattle.ranking.proofs.tag_order.TagOrderRanking.step.Goals as goal

pub overflow_add-length : goal.overflow_add-length
overflow_add-length c = omega (arith, c.loop-k.invariant.still c.loop-k.k (omega arith), no_longer c.requires c.loop-k.k)

pub returns : goal.returns
returns c =
    let m = c.args.measure in
    let long : length m ≡ 8 = eight c.requires in
    ext_get_or 0 c.loop-k.length-items (longer_by m c.args.tags) (c.loop-k-test.array_long ∙ sym long ∙ sym (longer_length m c.args.tags))
    (λ j h. c.loop-k.invariant.done j (omega arith) ∙ sym (longer_at m c.args.tags j (omega (arith, h, c.loop-k-test.array_long, long))))
