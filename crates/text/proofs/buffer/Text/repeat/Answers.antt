use Rattle.std.proofs.lemmas.List.{replicate_more}
use Rattle.text.proofs.Chains.{◌then◌, nothing, read_as}
use Rattle.text.proofs.buffer.Text.repeat.Goals as goal

pub loop-init : goal.loop-init
loop-init c = nothing _

pub loop-preserved : goal.loop-preserved
loop-preserved c = read_as (replicate_more c.loop.counter c.args.byte) (c.loop.invariant then c.byte.ensures)
