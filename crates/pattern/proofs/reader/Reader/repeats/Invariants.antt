use Rattle.std.proofs.Common.{◌-◌, length}
use Rattle.pattern.specs.Descent.{repeats}
use Rattle.pattern.specs.Nodes.{SoFar}
use Rattle.pattern.proofs.reader.Reader.repeats.Given as goal

abbrev pub invariant-repeats : goal.invariant-repeats
invariant-repeats l = SoFar repeats l.initial.self l.initial.part l.part l.self

abbrev pub decreases-repeats : goal.decreases-repeats
decreases-repeats l = length l.self.tokens.now - l.self.pos
