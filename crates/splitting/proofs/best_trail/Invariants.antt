use Rattle.std.proofs.Common.{◌≡◌, ◌≤◌, length, get_or}
use Rattle.splitting.specs.Steps.{Low}
use Rattle.splitting.proofs.Fronts.{may_stand, Cells}
use Rattle.splitting.proofs.best_trail.Given as goal

abbrev pub invariant-loop-i : goal.invariant-loop-i
invariant-loop-i g l = record {
  rows : length l.back ≡ 160;
  low : Low l.back;
  room : (64 ≤ length l.measures) × (64 ≤ length l.spare);
  cells : Cells (g.R.Ranking.start l.ranking) (g.R.Ranking.stepped l.ranking) (g.R.Ranking.compared l.ranking) l.automaton l.tags
      (may_stand (λ q s. g.A.Alphabet.meaning l.alphabet (get_or l.codes q 0) s) (length l.codes) l.stretch) l.i l.live l.measures l.back;
}
