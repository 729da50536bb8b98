use Rattle.std.proofs.Common.{replicate, ap, arith}
use Rattle.std.proofs.lemmas.List.{take_all}
use Rattle.text.proofs.Chains.{element, read_as}
use Rattle.proofreading.specs.Showing.{shown, shown_byte}
use Rattle.proofreading.proofs.Pushes.{blank, blank_push}
use Rattle.proofreading.proofs.showing.write_blank.Goals as goal

pub loop-b-preserved : goal.loop-b-preserved
loop-b-preserved c = element (λ bs. blank (shown bs)) (λ b. blank (shown_byte b)) blank_push c.args.bytes.now c.loop-b.b-index 0 (omega arith) c.loop-b.invariant (read_as (ap (λ n. replicate n 32) c.width.ensures) c.repeat.ensures)

pub returns : goal.returns
returns c = read_as (ap (λ bs. blank (shown bs)) (take_all c.loop-b.b-index c.args.bytes.now (omega arith))) c.loop-b.invariant
