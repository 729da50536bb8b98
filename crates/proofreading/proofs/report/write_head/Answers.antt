use Rattle.text.proofs.Chains.{◌then◌}
use Rattle.proofreading.proofs.report.write_head.Goals as goal

pub returns : goal.returns
returns c = c.text.ensures then c.write_count.ensures then c.text-2.ensures then c.number.ensures then c.text-3.ensures then c.number-2.ensures then c.text-4.ensures
