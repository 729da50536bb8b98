-- By hand, though the check finds it by itself: where it does not hold, it searches for long.
use Rattle.std.proofs.Common.{refl}
use Rattle.histories.proofs.mark.Goals as goal

pub returns : goal.returns
returns g c = λ n acts led. let h = c.mark.ensures.right_in_every_history n acts led in ((c.mark.new.buffer, refl, h.0), h.1)
