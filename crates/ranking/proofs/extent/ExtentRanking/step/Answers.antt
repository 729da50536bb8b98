use Rattle.std.proofs.Common.{arith}
use Rattle.std.proofs.lemmas.Nat.{ones-le}
use Rattle.ranking.proofs.Extents.{within}
use Rattle.ranking.proofs.extent.ExtentRanking.step.Goals as goal

pub overflow_add-result : goal.overflow_add-result
overflow_add-result c = omega (arith, within c.requires, ones-le 8 c.args.tags c.ranges.tags.fits)
