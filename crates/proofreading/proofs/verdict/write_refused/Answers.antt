use Rattle.std.proofs.Common.{ap, ◌∙◌}
use Rattle.text.proofs.Chains.{◌then◌, read_as}
use Rattle.proofreading.specs.Showing.{caret_line}
use Rattle.proofreading.proofs.verdict.write_refused.Goals as goal

pub returns : goal.returns
returns c =
    c.text.ensures
    then c.write_refusal.ensures
    then c.text-2.ensures
    then read_as (c.as_bytes.ensures.value ∙ c.words.ensures) c.text-3.ensures
    then c.text-4.ensures
    then c.write_pattern.ensures
    then read_as (ap (caret_line c.args.bytes.now) c.offset.ensures) c.write_caret.ensures
