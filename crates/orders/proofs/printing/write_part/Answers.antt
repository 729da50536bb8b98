use Rattle.std.proofs.Common.{sym, ap}
use Rattle.text.proofs.Chains.{◌then◌, read_as}
use Rattle.orders.specs.Printing.{part_text}
use Rattle.orders.proofs.printing.write_part.Goals as goal

pub returns-in-Some : goal.returns-in-Some
returns-in-Some c = read_as (sym (ap part_text c.in-Some.is)) (c.number.ensures then c.byte.ensures then c.number-in-Some.ensures)
