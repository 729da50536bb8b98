use Rattle.std.proofs.Common.{decimal, ap, ◌∙◌}
use Rattle.text.proofs.Chains.{◌then◌, read_as}
use Rattle.refusals.specs.RefusalTexts.{offset_text, cause_text}
use Rattle.refusals.proofs.write_refusal.Goals as goal

pub returns : goal.returns
returns c =
    c.text.ensures
    then read_as (ap decimal (c.from.ensures ∙ c.number.ensures)) c.number-2.ensures
    then read_as (ap offset_text c.offset.ensures) c.write_offset.ensures
    then read_as (ap cause_text c.cause.ensures) c.write_cause.ensures
