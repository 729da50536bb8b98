use Rattle.std.proofs.Common.{decimal, sym, ap, ◌∙◌}
use Rattle.text.proofs.Chains.{◌then◌, read_as}
use Rattle.refusals.specs.RefusalTexts.{cause_text}
use Rattle.refusals.proofs.write_cause.Goals as goal

pub returns-in-Some : goal.returns-in-Some
returns-in-Some c = read_as (sym (ap cause_text c.in-Some.is)) (c.text.ensures then read_as (ap decimal (c.from.ensures ∙ c.number.ensures)) c.number-in-Some.ensures)
