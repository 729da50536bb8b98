use Rattle.std.specs.Prelude.{ℕ, cond, nat_lt}
use Rattle.std.specs.declared.cmp.Ordering.TheVariants.{Less, Equal, Greater}
use Rattle.std.specs.declared.cmp.Ordering.{Ordering}

-- how two numbers compare
abbrev pub ordered : ℕ → ℕ → Ordering
ordered a b = cond (nat_lt a b) Less (cond (nat_lt b a) Greater Equal)
