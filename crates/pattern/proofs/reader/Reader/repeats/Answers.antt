use Rattle.std.proofs.Common.{false, ◌≡◌, sym, refl, ◌∙◌, inl, inr, arith}
use Rattle.pattern.specs.declared.fault.Fault.TheVariants.{RepeatedTag}
use Rattle.pattern.specs.declared.token.Kind.{Kind}
use Rattle.pattern.specs.Expressions.{star, plus, opt}
use Rattle.pattern.specs.Descent.{is_repeat, repeats_star_tag, repeats_plus_tag, repeats_end, repeats_star, repeats_plus, repeats_opt}
use Rattle.pattern.specs.Nodes.{source_of, kind_here}
use Rattle.pattern.specs.Trees.{a_star, a_plus, an_opt}
use Rattle.pattern.proofs.Steps.{repeat_turn, kind_is, faulted}
use Rattle.pattern.proofs.reader.Reader.repeats.Goals as goal
use Rattle.pattern.proofs.reader.Reader.repeats.Goals.{in-Opt, in-Opt-2, in-Star-2, in-Plus}

pub returns-in-Star : goal.returns-in-Star
returns-in-Star c = λ e m.
    let s = source_of c.repeats.self in
    let i = c.repeats.self.pos in
    let g = c.repeats.invariant.gone e m in
    let tagged = sym g.means.mark ∙ c.if-part.true in
    faulted s i c.peek-token.ensures RepeatedTag (g.onward _ (elim c.in-Star.is [ inl a ↦ repeats_star_tag (kind_is s i c.peek-token.ensures a) tagged | inr b ↦ repeats_plus_tag (kind_is s i c.peek-token.ensures b) tagged ]))

pub returns-in_default-2 : goal.returns-in_default-2
returns-in_default-2 c = record {
  kept = c.repeats.invariant.kept;
  whole = λ e m.
      let g = c.repeats.invariant.gone e m in
      let none : is_repeat (kind_here c.repeats.self) ≡ false = grind arith in
      (g.expr, g.onward _ (repeats_end none), g.means);
}

pub repeats-preserved : goal.repeats-preserved
repeats-preserved c =
    let s = source_of c.repeats.self in
    let i = c.repeats.self.pos in
    let e = c.peek-token.ensures in
    let p = c.advance.ensures in
    elim c.match-token.branch [
      | in-Opt w ↦ repeat_turn c.repeats.invariant opt (λ x. refl) (λ x o m. repeats_opt (kind_is s i e w.in-Opt.is)) (λ ns j x h l s. an_opt (h ∙ w.node-is) l s) p c.add.ensures
      | in-Opt-2 w ↦ elim w.in-Star.is [ inl a ↦ absurd (let b = w.in-Opt in cc) | inr a ↦ absurd (let b = w.in-Opt in cc) ]
      | in-Star-2 w ↦
          let is : c.peek-token.result.kind ≡ Kind.Star = (let h = w.in-Star-2 in cc) in
          repeat_turn c.repeats.invariant star (λ x. refl) (λ x o m. repeats_star (kind_is s i e is) (sym m ∙ w.if-part.false)) (λ ns j x h l s. a_star (h ∙ w.node-is) l s) p c.add.ensures
      | in-Plus w ↦
          let is : c.peek-token.result.kind ≡ Kind.Plus = (let h = w.in-Plus in cc) in
          repeat_turn c.repeats.invariant plus (λ x. refl) (λ x o m. repeats_plus (kind_is s i e is) (sym m ∙ w.if-part.false)) (λ ns j x h l s. a_plus (h ∙ w.node-is) l s) p c.add.ensures
    ]
