-- Measures that are some steps from the start.
use Rattle.std.proofs.Common.{◌≡◌, ℕ, ◌+◌, ◌-◌, ◌≤◌, subst, arith}
use Rattle.ranking.specs.Laws.{Near, at_start, one_more}

module _ {M : Type 0} {start : M} {stepped : M → ℕ → M} where
  -- what is at most n steps from the start is at most k, for a larger k
  pub further : {n : ℕ} {m : M} (k : ℕ) → n ≤ k → Near start stepped n m → Near start stepped k m
  further k le at_start = at_start
  further k le (one_more {n} {m} o tags h) =
      let e : k - 1 + 1 ≡ k = omega arith in
      let l : n ≤ k - 1 = omega arith in
      subst (λ i. Near start stepped i (stepped m tags)) e (one_more (further (k - 1) l o) tags h)
