use Rattle.std.proofs.Common.{take}
use Rattle.text.specs.Texts.{Adds}
use Rattle.proofreading.specs.Showing.{shown}
use Rattle.proofreading.proofs.showing.write_bytes.Given as goal

abbrev pub invariant-loop-b : goal.invariant-loop-b
invariant-loop-b l = Adds l.initial.out (shown (take l.b-index l.bytes)) l.out
