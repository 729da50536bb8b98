use Rattle.std.proofs.Common.{◌≡◌, ℕ, get_or}
use Rattle.automaton.specs.Bit.{In}
use Rattle.splitting.proofs.BitLoops.{Left}
use Rattle.splitting.proofs.sweep.Fronts.set_measures.Given as goal

abbrev pub invariant-loop-q : goal.invariant-loop-q
invariant-loop-q g l =
    let start = g.R.Ranking.start l.self.ranking.now in record {
      left : Left l.reached.positions l.q-iterator.left;
      done : (q : ℕ) → In l.reached.positions q → (In l.q-iterator.left q → ⊥)
          → get_or l.after q start ≡ g.R.Ranking.stepped l.self.ranking.now (get_or l.self.measures.now (get_or l.reached.previous q 0) start) (get_or l.self.tags.now q 0);
    }
