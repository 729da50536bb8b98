use Rattle.pattern.proofs.tagging.+spread.Given as goal

abbrev pub decreases-spread : goal.decreases-spread
decreases-spread l = l.k
