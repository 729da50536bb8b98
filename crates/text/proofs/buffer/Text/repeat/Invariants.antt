use Rattle.std.proofs.Common.{replicate}
use Rattle.text.specs.Texts.{Adds}
use Rattle.text.proofs.buffer.Text.repeat.Given as goal

abbrev pub invariant-loop : goal.invariant-loop
invariant-loop l = Adds l.initial.self (replicate l.counter l.byte) l.self
