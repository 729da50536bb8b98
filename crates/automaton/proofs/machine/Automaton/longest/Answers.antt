use Rattle.std.proofs.Common.{sym, subst, arith}
use Rattle.automaton.specs.Tracks.{Earliest}
use Rattle.automaton.proofs.Ends.{best_none, best_some, best_of}
use Rattle.automaton.proofs.Sweeps.{turned, all_read}
use Rattle.automaton.proofs.machine.Automaton.longest.Goals as goal

pub loop-i-preserved-in-Some-least : goal.loop-i-preserved-in-Some-least
loop-i-preserved-in-Some-least c =
    let inv = c.loop-i.invariant in
    let goes = c.in-Some.ensures.goes.on inv.1 in
    let turn = turned _ _ _ _ inv.2 _ _ c.in-Some.ensures.steps in
    (goes.0, goes.1, turn.sweeps, rw turn.read (best_some _ _ _ c.in-Some-least.start (subst (Earliest _ _ _) c.in-Some-least.is turn.earliest) _ _ (rw (sym turn.place) inv.3) c.longer.ensures))

pub loop-i-preserved : goal.loop-i-preserved
loop-i-preserved c =
    let inv = c.loop-i.invariant in
    let goes = c.in-Some.ensures.goes.on inv.1 in
    let turn = turned _ _ _ _ inv.2 _ _ c.in-Some.ensures.steps in
    (goes.0, goes.1, turn.sweeps, rw turn.read (best_none _ _ c.in-Some.i _ (rw (sym turn.place) inv.3) (subst (Earliest _ _ _) c.in_default.is turn.earliest)))

pub returns : goal.returns
returns c = best_of _ _ _ _ (omega (arith, all_read _ _ _ _ c.loop-i.invariant.2 c.in-None.ensures.steps)) c.loop-i.invariant.3
