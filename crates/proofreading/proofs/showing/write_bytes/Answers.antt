use Rattle.std.proofs.Common.{ap, arith}
use Rattle.std.proofs.lemmas.List.{take_all}
use Rattle.text.proofs.Chains.{element, read_as}
use Rattle.proofreading.specs.Showing.{shown, shown_byte}
use Rattle.proofreading.proofs.Pushes.{shown_push}
use Rattle.proofreading.proofs.showing.write_bytes.Goals as goal

pub loop-b-preserved : goal.loop-b-preserved
loop-b-preserved c = element shown shown_byte shown_push c.args.bytes.now c.loop-b.b-index 0 (omega arith) c.loop-b.invariant c.write_byte.ensures

pub returns : goal.returns
returns c = read_as (ap (λ bs. shown bs) (take_all c.loop-b.b-index c.args.bytes.now (omega arith))) c.loop-b.invariant
