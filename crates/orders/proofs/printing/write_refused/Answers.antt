use Rattle.text.proofs.Chains.{◌then◌}
use Rattle.orders.proofs.printing.write_refused.Goals as goal

pub returns : goal.returns
returns c = c.write_refusal.ensures then c.byte.ensures
