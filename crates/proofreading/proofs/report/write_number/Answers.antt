use Rattle.std.proofs.Common.{sym}
use Rattle.std.proofs.lemmas.Bool.{lt-ltb, le-ltb, cond-true, cond-false}
use Rattle.text.proofs.Chains.{◌then◌, nothing, read_as}
use Rattle.proofreading.proofs.report.write_number.Goals as goal

pub returns-then-count-gt0 : goal.returns-then-count-gt0
returns-then-count-gt0 c =
    read_as (sym (cond-true _ _ _ (lt-ltb 0 c.args.count c.if-count-gt0.true)))
    (c.text.ensures then c.number.ensures then c.text-then-count-gt0.ensures then read_as c.refusal_name.ensures c.text-then-count-gt0-2.ensures then c.text-then-count-gt0-3.ensures then c.number-then-count-gt0.ensures then c.text-then-count-gt0-4.ensures)

pub returns-else-count-gt0 : goal.returns-else-count-gt0
returns-else-count-gt0 c = read_as (sym (cond-false _ _ _ (le-ltb 0 c.args.count c.if-count-gt0.false))) (nothing _)
