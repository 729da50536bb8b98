use Rattle.text.specs.declared.buffer.Text.{Text}
use Rattle.text.specs.Texts.{Adds}
use Rattle.cue.specs.Leb128.{leb128}
use Rattle.cue.proofs.writing.write_number.Given as goal

abbrev pub invariant-loop-rest : goal.invariant-loop-rest
invariant-loop-rest l = (u : Text) → Adds l.out (leb128 l.rest) u → Adds l.initial.out (leb128 l.initial.rest) u

abbrev pub decreases-loop-rest : goal.decreases-loop-rest
decreases-loop-rest l = l.rest
