use Rattle.std.proofs.Common.{ap, arith}
use Rattle.std.proofs.lemmas.List.{take_all}
use Rattle.text.proofs.Chains.{read_as}
use Rattle.orders.specs.Printing.{tags_text}
use Rattle.orders.proofs.Pushes.{tags_more}
use Rattle.orders.proofs.printing.write_tags.Goals as goal

pub loop-i-preserved : goal.loop-i-preserved
loop-i-preserved c = tags_more c.args.parts.now c.loop-i.i (omega arith) c.loop-i.invariant c.write_tag.ensures

pub returns : goal.returns
returns c = read_as (ap (tags_text 1) (take_all c.loop-i.i c.args.parts.now (omega arith))) c.loop-i.invariant
