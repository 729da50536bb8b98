use Rattle.pattern.proofs.positions.+gather.Given as goal

abbrev pub decreases-gather : goal.decreases-gather
decreases-gather l = l.k
