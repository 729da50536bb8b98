use Rattle.text.proofs.Chains.{◌then◌}
use Rattle.orders.proofs.printing.write_pair.Goals as goal

pub returns : goal.returns
returns c = c.text.ensures then c.byte.ensures then c.number.ensures then c.byte-2.ensures then c.number-2.ensures then c.byte-3.ensures
