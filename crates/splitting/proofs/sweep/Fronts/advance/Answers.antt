use Rattle.splitting.proofs.Tables.{low_row}
use Rattle.splitting.proofs.sweep.Fronts.advance.Goals as goal

pub returns-then-self-eq0-clause-low : goal.returns-then-self-eq0-clause-low
returns-then-self-eq0-clause-low g c = low_row 64
