-- How large a count of tags can be.
use Rattle.std.proofs.Common.{ℕ, ◌*◌, ◌≤◌, arith}
use Rattle.std.proofs.lemmas.Nat.{ones-le}
use Rattle.ranking.specs.Laws.{Near, at_start, one_more}
use Rattle.ranking.specs.TagSets.{no_extent, extent_with}

pub within : {n m : ℕ} → Near no_extent extent_with n m → m ≤ 8 * n
within at_start = omega arith
within (one_more o tags h) = omega (arith, within o, ones-le 8 tags h)
