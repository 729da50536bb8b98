use Rattle.std.proofs.Common.{◌≡◌, ℕ, true, false, Err, sym, refl, ap, ◌∙◌, inl, inr, arith}
use Rattle.pattern.specs.declared.fault.Fault.TheVariants.{MissingUnit, TooDeep}
use Rattle.pattern.specs.declared.token.Kind.{Kind}
use Rattle.pattern.specs.Expressions.{seq, either}
use Rattle.pattern.specs.Descent.{is_unit, is_opening, unit, item, branch, items, branches, group_then, group_bad, branches_end, branches_or, branches_bad, branch_then, branch_bad, items_end, items_more, items_bad, item_bad, unit_misread, unit_deep, unit_group_bad, unit_tags, unit_tag_bad, unit_none}
use Rattle.pattern.specs.Nodes.{source_of, kind_here, Did}
use Rattle.pattern.specs.Trees.{a_seq, an_or}
use Rattle.pattern.proofs.Steps.{handed_on, ended, stopped, joined_turn, stayed, went_on, carried, group_unit, group_loose, tag_unit, tag_loose, repeated, kind_is, faulted}
use Rattle.pattern.proofs.reader.Reader.+branch_group_item.Goals as goal
use Rattle.pattern.proofs.reader.Reader.+branch_group_item.Goals.{item-Joined-token, item-in-Open-2+in_ok-inner-in-Open-2+in_ok-close-in-Open-2, item-in-OpenTag+in_ok-tag-in-OpenTag+in_ok-inner-in-OpenTag+in_ok-close-in-OpenTag, item-in-Test+in_ok-read-in-Test+in_ok-unit-in-Test}

pub branch-returns-in_err-left : goal.branch-returns-in_err-left
branch-returns-in_err-left t c = handed_on _ _ _ c.from_residual.ensures.1 (branch_bad c.in_err-left.ensures)

pub branch-returns-in_err-right : goal.branch-returns-in_err-right
branch-returns-in_err-right t c =
    let more = ap (λ x. is_unit x.kind) (sym c.peek.ensures) ∙ sym c.loop-self-test.ensures in
    handed_on _ _ _ c.from_residual-in_err-right.ensures.1 (stopped (λ e o. branch_then) c.in_ok-left.ensures c.loop-self.invariant (λ e. items_bad more c.in_err-right.ensures))

pub branch-loop-self-preserved : goal.branch-loop-self-preserved
branch-loop-self-preserved t c =
    let more = ap (λ x. is_unit x.kind) (sym c.peek.ensures) ∙ sym c.loop-self-test.ensures in
    joined_turn (items c.args.depth) (item c.args.depth) seq _ (λ e f. refl) (λ ns j e f. a_seq) c.loop-self.invariant (stayed c.loop-self.invariant.kept.below) c.in_ok-right.ensures (λ e f o. items_more more) c.add.ensures refl

pub branch-returns : goal.branch-returns
branch-returns t c =
    let none = ap (λ x. is_unit x.kind) (sym c.peek.ensures) ∙ sym c.loop-self-test.ensures in
    ended (λ e o. branch_then) c.in_ok-left.ensures c.loop-self.invariant (λ e. items_end none)

pub group-returns-in_err-left : goal.group-returns-in_err-left
group-returns-in_err-left t c = handed_on _ _ _ c.from_residual.ensures.1 (group_bad c.in_err-left.ensures)

pub group-returns-in_err-right : goal.group-returns-in_err-right
group-returns-in_err-right t c =
    let took = c.loop-self-test.ensures in
    handed_on _ _ _ c.from_residual-in_err-right.ensures.1 (stopped (λ e o. group_then) c.in_ok-left.ensures c.loop-self.invariant (λ e. branches_bad took.0 (carried took.1.same took.1.pos c.in_err-right.ensures)))

pub group-loop-self-preserved : goal.group-loop-self-preserved
group-loop-self-preserved t c =
    let took = c.loop-self-test.ensures in
    joined_turn (branches c.args.depth) (branch c.args.depth) either _ (λ e f. refl) (λ ns j e f. an_or) c.loop-self.invariant (went_on c.loop-self.invariant.kept.below took.1) c.in_ok-right.ensures (λ e f o x. branches_or took.0 (carried refl took.1.pos x)) c.add.ensures refl

pub group-returns : goal.group-returns
group-returns t c =
    let took = c.loop-self-test.ensures in
    rw took.1 (ended (λ e o. group_then) c.in_ok-left.ensures c.loop-self.invariant (λ e. branches_end took.0))

pub item-returns-in_err-read-in-Test : goal.item-returns-in_err-read-in-Test
item-returns-in_err-read-in-Test t c =
    let is : kind_here c.args.self.now ≡ Kind.Test (Err c.in_err-read-in-Test.field-0.0) = grind arith in
    handed_on _ _ _ c.from_residual-in_err-read-in-Test.ensures.1 (item_bad (unit_misread is))

pub item-returns-in_err-unit-in-Test : goal.item-returns-in_err-unit-in-Test
item-returns-in_err-unit-in-Test t c = handed_on _ _ _ c.from_residual-in_err-unit-in-Test.ensures.1 (item_bad (c.in_err-unit-in-Test.ensures c.args.depth))

pub item-returns-in-Open : goal.item-returns-in-Open
item-returns-in-Open t c =
    let s = source_of c.args.self.now in
    let i = c.args.self.now.pos in
    let opening : is_opening (kind_here c.args.self.now) ≡ true = elim c.in-Open.is [ inl a ↦ ap is_opening (kind_is s i c.peek-token.ensures a) | inr b ↦ ap is_opening (kind_is s i c.peek-token.ensures b) ] in
    faulted s i c.peek-token.ensures TooDeep (item_bad (unit_deep opening c.if-depth-ge-MOST_OPEN.true))

pub item-returns-in_err-inner-in-Open-2 : goal.item-returns-in_err-inner-in-Open-2
item-returns-in_err-inner-in-Open-2 t c =
    let is : c.peek-token.result.kind ≡ Kind.Open = (let h = c.in-Open-2 in cc) in
    let p = c.advance.ensures in
    handed_on _ _ _ c.from_residual.ensures.1 (item_bad (unit_group_bad (kind_is (source_of c.args.self.now) _ c.peek-token.ensures is) c.if-depth-ge-MOST_OPEN.false (carried p.same p.pos c.in_err-inner-in-Open-2.ensures)))

pub item-returns-in_err-close-in-Open-2 : goal.item-returns-in_err-close-in-Open-2
item-returns-in_err-close-in-Open-2 t c =
    let is : c.peek-token.result.kind ≡ Kind.Open = (let h = c.in-Open-2 in cc) in
    handed_on _ _ _ c.from_residual-in_err-close-in-Open-2.ensures.1 (item_bad (group_loose _ c.advance.ensures c.in_ok-inner-in-Open-2.ensures (kind_is (source_of c.args.self.now) _ c.peek-token.ensures is) c.if-depth-ge-MOST_OPEN.false c.in_err-close-in-Open-2.ensures))

pub item-returns-in_err-tag-in-OpenTag : goal.item-returns-in_err-tag-in-OpenTag
item-returns-in_err-tag-in-OpenTag t c =
    let r = c.args.self.now in
    let is : c.peek-token.result.kind ≡ Kind.OpenTag = (let h = c.in-OpenTag in cc) in
    let full = c.in_err-tag-in-OpenTag.ensures in
    handed_on _ _ _ c.from_residual-in_err-tag-in-OpenTag.ensures.1 (rw full.1 (item_bad (unit_tags (kind_is (source_of r) _ c.peek-token.ensures is) c.if-depth-ge-MOST_OPEN.false (omega (arith, full.0, r.tags_are)))))

pub item-returns-in_err-inner-in-OpenTag : goal.item-returns-in_err-inner-in-OpenTag
item-returns-in_err-inner-in-OpenTag t c =
    let r = c.args.self.now in
    let is : c.peek-token.result.kind ≡ Kind.OpenTag = (let h = c.in-OpenTag in cc) in
    let tag = c.in_ok-tag-in-OpenTag.ensures in
    handed_on _ _ _ c.from_residual-in_err-inner-in-OpenTag.ensures.1 (item_bad (unit_tag_bad (kind_is (source_of r) _ c.peek-token.ensures is) c.if-depth-ge-MOST_OPEN.false (omega (arith, tag.0, r.tags_are)) (carried tag.2.same tag.2.pos c.in_err-inner-in-OpenTag.ensures)))

pub item-returns-in_err-close-in-OpenTag : goal.item-returns-in_err-close-in-OpenTag
item-returns-in_err-close-in-OpenTag t c =
    let is : c.peek-token.result.kind ≡ Kind.OpenTag = (let h = c.in-OpenTag in cc) in
    let tag = c.in_ok-tag-in-OpenTag.ensures in
    handed_on _ _ _ c.from_residual-in_err-close-in-OpenTag.ensures.1 (item_bad (tag_loose _ tag.2 c.in_ok-inner-in-OpenTag.ensures (kind_is (source_of c.args.self.now) _ c.peek-token.ensures is) c.if-depth-ge-MOST_OPEN.false tag.0 c.in_err-close-in-OpenTag.ensures))

pub item-returns-in_default-2 : goal.item-returns-in_default-2
item-returns-in_default-2 t c =
    let s = source_of c.args.self.now in
    let i = c.args.self.now.pos in
    let none : is_unit (kind_here c.args.self.now) ≡ false = grind arith in
    faulted s i c.peek-token.ensures MissingUnit (item_bad (unit_none none))

unit_read : (t : ℕ) (c : goal.item-Joined-token t) → Did (unit c.args.depth) c.args.self.now c.match-token.unit c.match-token.self
unit_read t c =
    let is : (k : Kind) → c.peek-token.result.kind ≡ k → kind_here c.args.self.now ≡ k = λ k. kind_is (source_of c.args.self.now) c.args.self.now.pos c.peek-token.ensures in
    elim c.match-token.branch [
      | item-in-Test+in_ok-read-in-Test+in_ok-unit-in-Test w ↦ simp (w.self-is, w.unit-is) (w.in_ok-unit-in-Test.ensures c.args.depth)
      | item-in-Open-2+in_ok-inner-in-Open-2+in_ok-close-in-Open-2 w ↦
          let here : c.peek-token.result.kind ≡ Kind.Open = (let h = w.in-Open-2 in cc) in
          let close = w.in_ok-close-in-Open-2.ensures in
          simp (w.self-is, w.unit-is) (group_unit _ w.advance.ensures w.in_ok-inner-in-Open-2.ensures (is _ here) w.if-depth-ge-MOST_OPEN.false close.0 close.1)
      | item-in-OpenTag+in_ok-tag-in-OpenTag+in_ok-inner-in-OpenTag+in_ok-close-in-OpenTag w ↦
          let here : c.peek-token.result.kind ≡ Kind.OpenTag = (let h = w.in-OpenTag in cc) in
          let tag = w.in_ok-tag-in-OpenTag.ensures in
          let close = w.in_ok-close-in-OpenTag.ensures in
          simp (w.self-is, w.unit-is) (tag_unit _ tag.2 w.in_ok-inner-in-OpenTag.ensures (is _ here) w.if-depth-ge-MOST_OPEN.false tag.0 tag.1 close.0 close.1 w.add.ensures)
    ]

pub item-repeats-requires : goal.item-repeats-requires
item-repeats-requires t c = (unit_read t (goal.at.item-repeats-requires t c).Joined-token).kept.below

pub item-returns : goal.item-returns
item-returns t c = repeated _ c.repeats.result (unit_read t (goal.at.item-returns t c).Joined-token) c.repeats.ensures
