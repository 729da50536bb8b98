use Rattle.text.proofs.Chains.{◌then◌}
use Rattle.proofreading.proofs.verdict.write_lawful.Goals as goal

pub returns : goal.returns
returns c = c.text.ensures then c.write_count.ensures then c.text-2.ensures then c.write_count-2.ensures then c.text-3.ensures then c.write_pattern.ensures
