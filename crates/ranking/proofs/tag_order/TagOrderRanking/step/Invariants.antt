use Rattle.std.proofs.Common.{◌≡◌, ℕ, ◌+◌, ◌/◌, ◌%◌, ◌^◌, ◌<◌, ◌≤◌, get_or}
use Rattle.ranking.proofs.tag_order.TagOrderRanking.step.Given as goal

abbrev pub invariant-loop-k : goal.invariant-loop-k
invariant-loop-k l = record {
  done : (j : ℕ) → j < l.k → get_or l.length-items j 0 ≡ get_or l.initial.length-items j 0 + (l.tags / 2 ^ j) % 2;
  still : (j : ℕ) → l.k ≤ j → get_or l.length-items j 0 ≡ get_or l.initial.length-items j 0;
}
