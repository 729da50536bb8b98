use Rattle.std.proofs.Common.{arith}
use Rattle.automaton.proofs.Bits.{lowest_of}
use Rattle.automaton.proofs.positions.PositionsIterator.next.Goals as goal

pub returns-clause-steps : goal.returns-clause-steps
returns-clause-steps c = lowest_of c.args.self.now.left (omega (arith, c.if-self-eq0.false)) (omega arith)
