-- Filing and longest by hand, though the check finds them by itself: where one does not hold, it searches for long.
use Rattle.std.proofs.Common.{refl}
use Rattle.histories.proofs.make.Goals as goal

pub returns-in-File : goal.returns-in-File
returns-in-File g c = λ n acts led. let h = c.file.ensures.right_in_every_history n acts led in rw c.in-File.is ((c.file.result, refl, refl, h.0), h.1)

pub returns-in-Longest : goal.returns-in-Longest
returns-in-Longest g c = λ n acts led. let h = c.longest.ensures.right_in_every_history n acts led in rw c.in-Longest.is ((c.longest.result, refl, refl, h.0), h.1)

pub returns-in-Mark : goal.returns-in-Mark
returns-in-Mark g c = λ n acts led. let h = c.mark.ensures n acts led in rw c.in-Mark.is ((c.mark.result, refl, c.mark.new.call, refl, h.0), h.1)

pub returns-in-Split : goal.returns-in-Split
returns-in-Split g c = λ n acts led. let h = c.split.ensures n acts led in rw c.in-Split.is ((c.split.result, refl, c.split.new.call, refl, h.0), h.1)
