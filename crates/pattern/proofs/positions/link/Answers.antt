use Rattle.std.proofs.Common.{◌<◌, length, get_or, set, sym, ◌∙◌, subst, inl, inr, arith, length-set}
use lib.Bits.{bit_or}
use Rattle.automaton.specs.Bit.{In}
use Rattle.pattern.proofs.BitSets.{widened_new, widened_old, in_widened}
use Rattle.pattern.proofs.positions.link.Goals as goal

pub loop-p-preserved : goal.loop-p-preserved
loop-p-preserved c =
    let xs = c.loop-p.follow in
    let inv = c.loop-p.invariant in
    let t = c.in-Some.p in
    let next = c.in-Some.ensures.steps in
    let within : t < length xs = omega (arith, inv.0, c.told-follow, next.below) in (
      length-set xs t _ ∙ inv.0,
      (λ p e. inv.1 p (next.others p e)),
      (λ p q e. elim (in_widened xs t c.args.to within p q e) [ inl a ↦ inv.2 p q a | inr b ↦ inr (subst (λ n. In c.args.from n) (sym b.0) (inv.1 t next.one), b.1) ]),
      (λ p q e. widened_old xs t c.args.to within p q (inv.3 p q e)),
      (λ p q h f o. elim (inv.4 p q h f o) [
        | inl r ↦ elim (next.each p r) [
          | inl same ↦ inr (subst (λ n. In (get_or (set xs t (bit_or (get_or xs t 0) c.args.to)) n 0) q) (sym same) (widened_new xs t c.args.to within q o))
          | inr left ↦ inl left
        ]
        | inr a ↦ inr (widened_old xs t c.args.to within p q a)
      ]),
    )
