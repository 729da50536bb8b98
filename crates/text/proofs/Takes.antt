-- What is taken of one list after another.
use Rattle.std.proofs.Common.{◌≡◌, ℕ, ◌++◌, take, List, arith}
use Rattle.std.proofs.lemmas.Grind.{common_steps}

pub take_twice : {X : Type 0} (n : ℕ) (x y : List X) → take n (take n x ++ y) ≡ take n (x ++ y)
take_twice n x y = grind (arith, common_steps)
