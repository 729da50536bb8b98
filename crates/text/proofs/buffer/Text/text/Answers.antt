use Rattle.text.proofs.buffer.Text.text.Goals as goal

pub returns : goal.returns
returns c = record { bytes = c.append.ensures.front }
