use Rattle.std.proofs.Common.{◌≡◌, ℕ, ◌/◌, ◌%◌, ◌^◌, ◌<◌, cond, length, get_or, sym, refl, ap, ◌∙◌, subst, inl, inr, arith}
use Rattle.std.proofs.lemmas.List.{get_or-set_same, get_or-set_other}
use Rattle.automaton.specs.Bit.{In}
use Rattle.splitting.proofs.BitLoops.{left_next}
use Rattle.splitting.proofs.Offering.{one_offer, all_offered}
use Rattle.splitting.proofs.sweep.Fronts.offer.Goals as goal
use Rattle.splitting.proofs.sweep.Fronts.offer.Goals.{then-reached-q-eq0-via-then-reached-q-eq0, then-reached-q-eq0-via-else-reached-q-eq0+then-is_higher}

not_in : (x k : ℕ) → (x / 2 ^ k) % 2 ≡ 0 → In x k → ⊥
not_in x k z e = omega (arith, z, e.is)

is_in : (x k : ℕ) → ((x / 2 ^ k) % 2 ≡ 0 → ⊥) → In x k
is_in x k n = record { is = omega (arith, n) }

pub is_higher-requires : goal.is_higher-requires
is_higher-requires g c =
    let q = c.in-Some.q in
    let next = c.in-Some.ensures.steps in
    (c.requires.live_p, subst (In c.args.self.now.live) (sym (c.loop-q.invariant.offered.waiting q next.one)) (c.requires.live_reached q (is_in c.args.reached q c.if-reached-q-eq0.false)))

-- q takes the position
pub loop-q-preserved-in-loop-q : goal.loop-q-preserved-in-loop-q
loop-q-preserved-in-loop-q g c =
    let f = c.args.self.now in
    let compared = g.R.Ranking.compared c.args.self.now.ranking.now in
    let m : ℕ → g.row.R-Measure.Denot = λ p. get_or c.args.self.now.measures.now p (g.R.Ranking.start c.args.self.now.ranking.now) in
    let q = c.in-Some.q in
    let now = c.loop-q.previous in
    let inv = c.loop-q.invariant in
    let next = c.in-Some.ensures.steps in
    let inside : c.in-Some.q < length c.loop-q.previous = omega (arith, next.below) in
    let there = get_or-set_same now q c.args.p 0 inside in record {
      left = left_next inv.left next;
      offered = one_offer compared m c.args.p c.args.onto c.args.reached c.args.previous.now now _ inv.left next inv.offered
          (λ k n. get_or-set_other now q k c.args.p 0 n)
          (elim c.then-reached-q-eq0.branch [
            | then-reached-q-eq0-via-then-reached-q-eq0 v ↦ inl (not_in c.args.reached q v.if-reached-q-eq0.true, there)
            | then-reached-q-eq0-via-else-reached-q-eq0+then-is_higher v ↦
                inr (is_in c.args.reached q v.if-reached-q-eq0.false, there ∙ ap (λ b. cond b c.args.p (get_or now q 0)) (sym v.if-is_higher.true ∙ v.is_higher.ensures))
          ]);
    }

-- q keeps the one that stood there
pub loop-q-preserved : goal.loop-q-preserved
loop-q-preserved g c =
    let compared = g.R.Ranking.compared c.args.self.now.ranking.now in
    let m : ℕ → g.row.R-Measure.Denot = λ p. get_or c.args.self.now.measures.now p (g.R.Ranking.start c.args.self.now.ranking.now) in
    let q = c.in-Some.q in
    let now = c.loop-q.previous in
    let inv = c.loop-q.invariant in
    let next = c.in-Some.ensures.steps in record {
      left = left_next inv.left next;
      offered = one_offer compared m c.args.p c.args.onto c.args.reached c.args.previous.now now now inv.left next inv.offered (λ k n. refl)
          (inr (is_in c.args.reached q c.if-reached-q-eq0.false, ap (λ b. cond b c.args.p (get_or now q 0)) c.if-is_higher.ensures));
    }

pub returns : goal.returns
returns g c = all_offered c.loop-q.invariant.offered c.in-None.ensures.steps.0
