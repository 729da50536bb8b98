use Rattle.std.proofs.Common.{refl, arith}
use Rattle.cue.proofs.Yielding.{yields_bad, yields_fault, yields_next, surplus, bad_tag, bad_start, bad_length, a_part}
use Rattle.cue.proofs.cursor.Cursor.part.Goals as goal

pub returns-then-offset-self : goal.returns-then-offset-self
returns-then-offset-self c =
    let self = c.args.self.now in
    yields_bad _ _ _ _ (surplus self.symbols c.args.parts c.args.least self.offset self.bytes.now c.if-parts-eq0.true c.if-offset-self.true) refl

pub returns-in_err-tag : goal.returns-in_err-tag
returns-in_err-tag c =
    yields_fault _ _ _ c.from_residual.result c.from_residual.ensures.1
    (bad_tag c.args.self.now c.args.parts c.args.least (omega arith) c.number_within.new.self _ c.in_err-tag.ensures.took)

pub returns-in_err-left : goal.returns-in_err-left
returns-in_err-left c =
    yields_fault _ _ _ c.from_residual-in_err-left.result c.from_residual-in_err-left.ensures.1
    (bad_start c.args.self.now c.args.parts c.args.least (omega arith) c.number_within.new.self c.in_ok-tag.tag c.in_ok-tag.ensures.took
    c.number_within-2.new.self _ c.in_err-left.ensures.took)

pub returns-in_err-length : goal.returns-in_err-length
returns-in_err-length c =
    yields_fault _ _ _ c.from_residual-in_err-length.result c.from_residual-in_err-length.ensures.1
    (bad_length c.args.self.now c.args.parts c.args.least (omega arith) c.number_within.new.self c.in_ok-tag.tag c.in_ok-tag.ensures.took
    c.number_within-2.new.self c.in_ok-left.left c.in_ok-left.ensures.took c.number_within-3.new.self _ c.in_err-length.ensures.took)

pub returns : goal.returns
returns c =
    let e = a_part c.args.self.now c.args.parts c.args.least (omega arith) c.number_within.new.self c.in_ok-tag.tag c.in_ok-tag.ensures.took
    c.number_within-2.new.self c.in_ok-left.left c.in_ok-left.ensures.took
    c.number_within-3.new.self c.in_ok-length.length c.in_ok-length.ensures.took in
    yields_next _ _ _ _ e refl
