use Rattle.std.proofs.Common.{◌≡◌, cond, ◌||◌, sym, refl, ap, ◌∙◌}
use Rattle.automaton.specs.Bit.{bit}
use Rattle.pattern.proofs.BitSets.{bit_union, bit_if}
use Rattle.pattern.proofs.positions.Edges.then.Goals as goal
use Rattle.pattern.proofs.positions.Edges.then.Goals.{then-self, else-self, then-next, else-next}

pub returns : goal.returns
returns c =
    let left = c.args.self in
    let right = c.args.next in
    let first : c.if-self.first ≡ cond left.nullable right.first 0 =
    elim c.if-self.branch [ then-self w ↦ w.first-is ∙ ap (λ b. cond b right.first 0) (sym w.if-self.true) | else-self w ↦ w.first-is ∙ ap (λ b. cond b right.first 0) (sym w.if-self.false) ]
    in
    let last : c.if-next.last ≡ cond right.nullable left.last 0 =
    elim c.if-next.branch [ then-next w ↦ w.last-is ∙ ap (λ b. cond b left.last 0) (sym w.if-next.true) | else-next w ↦ w.last-is ∙ ap (λ b. cond b left.last 0) (sym w.if-next.false) ]
    in
    record {
      null = refl;
      first = λ k. bit_union left.first c.if-self.first k ∙ ap (λ b. bit left.first k || b) (ap (λ x. bit x k) first ∙ bit_if left.nullable right.first k);
      last = λ k. bit_union right.last c.if-next.last k ∙ ap (λ b. bit right.last k || b) (ap (λ x. bit x k) last ∙ bit_if right.nullable left.last k);
    }
