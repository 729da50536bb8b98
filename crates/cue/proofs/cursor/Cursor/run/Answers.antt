use Rattle.std.proofs.Common.{refl}
use Rattle.cue.proofs.Yielding.{yields_fault, yields_next, bad_gap, bad_run, a_run}
use Rattle.cue.proofs.cursor.Cursor.run.Goals as goal

pub returns-in_err-gap : goal.returns-in_err-gap
returns-in_err-gap c =
    yields_fault _ _ _ c.from_residual.result c.from_residual.ensures.1
    (bad_gap c.args.self.now c.args.runs c.args.end c.requires c.min.result c.saturating_sub.result c.min.ensures c.saturating_sub.ensures
    c.number_within.new.self _ c.in_err-gap.ensures.took)

pub returns-in_err-length : goal.returns-in_err-length
returns-in_err-length c =
    yields_fault _ _ _ c.from_residual-in_err-length.result c.from_residual-in_err-length.ensures.1
    (bad_run c.args.self.now c.args.runs c.args.end c.requires c.min.result c.saturating_sub.result c.min.ensures c.saturating_sub.ensures
    c.number_within.new.self c.in_ok-gap.gap c.in_ok-gap.ensures.took c.saturating_sub-2.result c.saturating_sub-2.ensures
    c.number_within-2.new.self _ c.in_err-length.ensures.took)

pub returns : goal.returns
returns c =
    let e = a_run c.args.self.now c.args.runs c.args.end c.requires c.min.result c.saturating_sub.result c.min.ensures c.saturating_sub.ensures
    c.number_within.new.self c.in_ok-gap.gap c.in_ok-gap.ensures.took c.saturating_sub-2.result c.saturating_sub-2.ensures
    c.number_within-2.new.self c.in_ok-length.length c.in_ok-length.ensures.took in
    yields_next _ _ _ _ e refl
