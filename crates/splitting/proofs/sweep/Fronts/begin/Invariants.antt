use Rattle.std.proofs.Common.{◌≡◌, ℕ, get_or}
use Rattle.automaton.specs.Bit.{In}
use Rattle.splitting.proofs.BitLoops.{Left}
use Rattle.splitting.proofs.sweep.Fronts.begin.Given as goal

abbrev pub invariant-loop-q : goal.invariant-loop-q
invariant-loop-q g l = record {
  left : Left l.begun l.q-iterator.left;
  done : (q : ℕ) → In l.begun q → (In l.q-iterator.left q → ⊥) → get_or l.after q (g.R.Ranking.start l.self.ranking.now) ≡ g.R.Ranking.stepped l.self.ranking.now (g.R.Ranking.start l.self.ranking.now) (get_or l.self.tags.now q 0);
}
