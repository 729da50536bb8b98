use Rattle.std.proofs.Common.{◌∙◌}
use Rattle.text.proofs.Chains.{read_as}
use Rattle.text.proofs.buffer.Text.number.Goals as goal

pub returns : goal.returns
returns c = read_as (c.as_bytes.ensures.value ∙ c.format.ensures.text) c.text.ensures
