use Rattle.std.proofs.Common.{◌≡◌, ◌+◌, ◌<◌, ◌++◌, map, reverse, length, drop}
use Rattle.splitting.specs.Steps.{back_from}
use Rattle.splitting.proofs.sweep.walk_back.Given as goal

abbrev pub invariant-loop-i : goal.invariant-loop-i
invariant-loop-i l = record {
  low : l.q < 64;
  written : map (λ p. p + 1) (reverse (back_from l.back l.i l.q)) ++ drop l.i l.trail ≡ map (λ p. p + 1) (reverse (back_from l.back (length l.initial.trail) l.last));
}
