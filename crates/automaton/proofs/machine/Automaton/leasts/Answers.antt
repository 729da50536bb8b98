use Rattle.std.proofs.Common.{length-set, ◌∙◌, arith}
use Rattle.std.proofs.lemmas.Grind.{common_steps}
use Rattle.automaton.proofs.Sweeps.{turned}
use Rattle.automaton.proofs.machine.Automaton.leasts.Goals as goal

pub loop-i-preserved : goal.loop-i-preserved
loop-i-preserved c =
    let inv = c.loop-i.invariant in
    let goes = c.in-Some.ensures.goes.on inv.1 in
    let turn = turned _ _ _ _ inv.2 _ _ c.in-Some.ensures.steps in
    (goes.0, goes.1, turn.sweeps, length-set c.loop-i.out c.in-Some.i c.in-Some.least ∙ inv.3, λ k h. grind (arith, common_steps, inv.4 k, turn.place, turn.read, turn.earliest, inv.3))
