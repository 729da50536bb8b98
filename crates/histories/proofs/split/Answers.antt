-- By hand, though the check finds it by itself: where it does not hold, it searches for long.
use Rattle.std.proofs.Common.{refl}
use Rattle.histories.proofs.split.Goals as goal

pub returns : goal.returns
returns g c = λ n acts led. let h = c.split.ensures.right_in_every_history n acts led in ((c.split.new.trail, c.split.new.sheet, c.split.new.work, c.split.auto.work, refl, h.0), h.1)
