use Rattle.std.proofs.Common.{length, take, replicate}
use Rattle.text.specs.Texts.{Adds}
use Rattle.proofreading.specs.Showing.{shown}
use Rattle.proofreading.proofs.showing.write_blank.Given as goal

abbrev pub invariant-loop-b : goal.invariant-loop-b
invariant-loop-b l = Adds l.initial.out (replicate (length (shown (take l.b-index l.bytes))) 32) l.out
