use Rattle.std.proofs.Common.{sym, ap}
use Rattle.text.proofs.Chains.{◌then◌, read_as, alone}
use Rattle.proofreading.specs.Verdicts.{finding_text}
use Rattle.proofreading.proofs.Columns.{caret_stands_below}
use Rattle.proofreading.proofs.Lengths.{verdict_fits}
use Rattle.proofreading.proofs.verdict.write_verdict.Goals as goal

pub returns-in-Ok : goal.returns-in-Ok
returns-in-Ok c =
    let text = c.text.ensures then c.number.ensures then read_as (sym (ap (finding_text c.args.bytes.now) c.in-Ok.is)) c.write_lawful.ensures in
    record { text = alone c.clear.ensures text (verdict_fits c.args.line c.args.bytes.now c.args.verdict); caret = caret_stands_below }

pub returns-in-Err : goal.returns-in-Err
returns-in-Err c =
    let text = c.text.ensures then c.number.ensures then read_as (sym (ap (finding_text c.args.bytes.now) c.in-Err.is)) c.write_refused.ensures in
    record { text = alone c.clear.ensures text (verdict_fits c.args.line c.args.bytes.now c.args.verdict); caret = caret_stands_below }
