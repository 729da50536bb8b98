use Rattle.std.proofs.Common.{ap}
use Rattle.text.proofs.Chains.{◌then◌, read_as}
use Rattle.cue.specs.Leb128.{leb128}
use Rattle.cue.proofs.writing.write_part.Goals as goal

pub returns : goal.returns
returns c = c.write_number.ensures then (c.write_number-2.ensures then read_as (ap leb128 c.saturating_sub.ensures) c.write_number-3.ensures)
