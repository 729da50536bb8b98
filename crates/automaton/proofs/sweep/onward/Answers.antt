use Rattle.std.proofs.Common.{get_or, subst, inl, inr}
use Rattle.automaton.specs.Bit.{In}
use Rattle.automaton.proofs.Bits.{in_or, or_in}
use Rattle.automaton.proofs.sweep.onward.Goals as goal

pub loop-p-preserved : goal.loop-p-preserved
loop-p-preserved c =
    let p = c.in-Some.p in
    let next = c.in-Some.ensures.steps in
    let inv = c.loop-p.invariant in (
      (λ q e. elim (in_or e) [ inl o ↦ inv.0 q o | inr f ↦ (p, inv.1 p next.one, f) ]),
      (λ k e. inv.1 k (next.others k e)),
      (λ k q e f. elim (inv.2 k q e f) [
        | inl r ↦ elim (next.each k r) [
          | inl same ↦ inr (or_in {x = c.loop-p.out} (inr (subst (λ k. In (get_or c.args.follow.now k 0) q) same f)))
          | inr left ↦ inl left
        ]
        | inr o ↦ inr (or_in {x = c.loop-p.out} (inl o))
      ]),
    )
