use Rattle.std.proofs.Common.{◌^◌, ◌<◌, get_or, arith, rules}
use Rattle.automaton.proofs.Turns.{some, none, end_some, end_none}
use Rattle.automaton.proofs.sweep.Sweep.advance.Goals as goal
use Rattle.automaton.proofs.sweep.Sweep.advance.Goals.{then-next-ne0, else-next-ne0, then-fresh-ne0, else-fresh-ne0, At-loop-k}

-- a row is a set of 64 positions at most
fit : (c : At-loop-k) → get_or c.args.self.now.rows.now c.args.self.now.read 0 < 2 ^ 64
fit c = search rules

pub loop-k-preserved : goal.loop-k-preserved
loop-k-preserved c =
    let inv = c.loop-k.invariant in
    let row = fit (goal.at.loop-k-preserved c).At-loop-k in
    let out = c.onward.ensures in
    elim c.if-next-ne0.branch [
      | then-next-ne0 w ↦ simp (w.groups-is, w.taken-is, w.live-is) (some _ _ _ _ _ _ _ _ _ inv.0 c.requires.swept c.requires.more c.args.self.now.short row c.loop-k-test.true _ out.sound out.complete, inv.1)
      | else-next-ne0 w ↦ simp (w.groups-is, w.taken-is, w.live-is) (none _ _ _ _ _ _ _ _ _ inv.0 c.requires.swept c.requires.more c.args.self.now.short row c.loop-k-test.true _ out.sound out.complete w.if-next-ne0.false, inv.1)
    ]

pub returns-clause-swept : goal.returns-clause-swept
returns-clause-swept c =
    let turn = c.loop-k.invariant.0 in
    let row = fit (goal.at.returns-clause-swept c).At-loop-k in
    elim c.if-fresh-ne0.branch [
      | then-fresh-ne0 w ↦ simp (w.groups-is, w.live-is) (end_some _ _ _ _ _ _ _ _ _ turn c.requires.swept c.requires.more c.args.self.now.short row (omega arith) (omega arith))
      | else-fresh-ne0 w ↦ simp (w.groups-is, w.live-is) (end_none _ _ _ _ _ _ _ _ _ turn c.requires.swept c.requires.more c.args.self.now.short row (omega arith) (omega arith) w.if-fresh-ne0.false)
    ]
