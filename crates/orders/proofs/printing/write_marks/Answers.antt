use Rattle.text.proofs.Chains.{◌then◌}
use Rattle.orders.proofs.printing.write_marks.Goals as goal

pub returns : goal.returns
returns c = c.text.ensures then c.write_spaced.ensures then c.byte.ensures
