use Rattle.std.proofs.Common.{◌≡◌, ◌<◌, length, get_or, set, sym, ap, ◌∙◌, subst, inl, inr, arith}
use Rattle.std.proofs.lemmas.List.{get_or-set_same, get_or-set_other}
use Rattle.automaton.specs.Bit.{In}
use Rattle.ranking.proofs.Reaching.{further}
use Rattle.splitting.proofs.BitLoops.{left_next, done_more}
use Rattle.splitting.proofs.sweep.Fronts.set_measures.Goals as goal

pub step-requires : goal.step-requires
step-requires g c = further 159 (omega arith) c.measure.ensures.near

pub loop-q-preserved : goal.loop-q-preserved
loop-q-preserved g c =
    let start = g.R.Ranking.start c.args.self.now.ranking.now in
    let stepped = g.R.Ranking.stepped c.args.self.now.ranking.now in
    let tags = c.args.self.now.tags.now in
    let before = c.args.self.now.measures.now in
    let previous = c.args.reached.now.previous in
    let after = c.loop-q.after in
    let p = c.in-Some.q in
    let inv = c.loop-q.invariant in
    let next = c.in-Some.ensures.steps in
    let inside : c.in-Some.q < length c.loop-q.after = omega (arith, next.below, c.requires.room.1, c.loop-q.auto.after) in
    record {
      left = left_next inv.left next;
      done = λ q e n. elim (done_more inv.left next q e n) [
        | inl s ↦
            subst (λ k. get_or (set after p c.step.result) k start ≡ stepped (get_or before (get_or previous k 0) start) (get_or tags k 0)) (sym s)
            (get_or-set_same after p c.step.result start inside ∙ c.step.ensures ∙ ap (λ m. stepped m (get_or tags p 0)) c.measure.ensures.value)
        | inr d ↦ get_or-set_other after p q c.step.result start (λ s. d (subst (λ k. In c.loop-q.q-iterator.left k) (sym s) next.one)) ∙ inv.done q e d
      ];
    }
