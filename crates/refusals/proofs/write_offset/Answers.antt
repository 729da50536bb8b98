use Rattle.std.proofs.Common.{sym, ap}
use Rattle.text.proofs.Chains.{◌then◌, read_as}
use Rattle.refusals.specs.RefusalTexts.{offset_text}
use Rattle.refusals.proofs.write_offset.Goals as goal

pub returns-in-Some : goal.returns-in-Some
returns-in-Some c = read_as (sym (ap offset_text c.in-Some.is)) (c.text.ensures then c.number.ensures)
