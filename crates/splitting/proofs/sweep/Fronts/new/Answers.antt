use Rattle.splitting.proofs.sweep.Fronts.new.Goals as goal

pub invariant_of-result-clause-measured : goal.invariant_of-result-clause-measured
invariant_of-result-clause-measured g c = c.requires.measured
