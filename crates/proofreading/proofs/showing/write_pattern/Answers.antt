use Rattle.std.proofs.Common.{length, sym, ap, arith}
use Rattle.std.proofs.lemmas.Bool.{lt-ltb, le-ltb, cond-true, cond-false}
use Rattle.text.proofs.Chains.{◌then◌, read_as}
use Rattle.proofreading.specs.Showing.{shown}
use Rattle.proofreading.proofs.showing.write_pattern.Goals as goal

pub returns-then-bytes-gt-SHOWN : goal.returns-then-bytes-gt-SHOWN
returns-then-bytes-gt-SHOWN c =
    c.text.ensures
    then read_as (ap shown c.first.ensures) c.write_bytes.ensures
    then read_as (sym (cond-true _ _ _ (lt-ltb 120 (length c.args.bytes.now) (omega (arith, c.if-bytes-gt-SHOWN.true))))) c.text-then-bytes-gt-SHOWN.ensures

pub returns-else-bytes-gt-SHOWN : goal.returns-else-bytes-gt-SHOWN
returns-else-bytes-gt-SHOWN c =
    c.text.ensures
    then read_as (ap shown c.first.ensures) c.write_bytes.ensures
    then read_as (sym (cond-false _ _ _ (le-ltb 120 (length c.args.bytes.now) (omega (arith, c.if-bytes-gt-SHOWN.false))))) c.text-else-bytes-gt-SHOWN.ensures
