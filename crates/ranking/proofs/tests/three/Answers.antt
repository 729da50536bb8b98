use Rattle.std.proofs.Common.{arith}
use Rattle.ranking.specs.Laws.{at_start, one_more}
use Rattle.ranking.proofs.Reaching.{further}
use Rattle.ranking.proofs.tests.three.Goals as goal

pub step-requires : goal.step-requires
step-requires g c = rw c.start.ensures at_start

pub step-requires-2 : goal.step-requires-2
step-requires-2 g c = rw (c.step.ensures, c.start.ensures) (further 159 (omega arith) (one_more (at_start {n = 0}) _ c.ranges.a.fits))

pub step-requires-3 : goal.step-requires-3
step-requires-3 g c =
    rw (c.step-2.ensures, c.step.ensures, c.start.ensures) (further 159 (omega arith) (one_more (one_more (at_start {n = 0}) _ c.ranges.a.fits) _ c.ranges.b.fits))

pub returns : goal.returns
returns g c =
    rw (c.step-3.ensures, c.step-2.ensures, c.step.ensures, c.start.ensures)
    (further 160 (omega arith) (one_more (one_more (one_more (at_start {n = 0}) _ c.ranges.a.fits) _ c.ranges.b.fits) _ c.ranges.c.fits))
