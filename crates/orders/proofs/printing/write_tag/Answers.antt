use Rattle.text.proofs.Chains.{◌then◌}
use Rattle.orders.proofs.printing.write_tag.Goals as goal

pub returns : goal.returns
returns c = c.byte.ensures then c.number.ensures then c.byte-2.ensures then c.write_part.ensures
