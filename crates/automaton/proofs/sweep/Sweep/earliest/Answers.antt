use Rattle.std.proofs.Common.{◌≡◌, None, get_or, take, rules}
use lib.Bits.{bit_and}
use borrow.Author.Tests.{tests}
use Rattle.std.specs.Option.{MatchOption}
use Rattle.std.proofs.lemmas.Iterator.{IsFirst-from_position, YieldsList-from_slice}
use Rattle.automaton.specs.Tracks.{First, Earliest}
use Rattle.automaton.proofs.Ends.{found}
use Rattle.automaton.proofs.sweep.Sweep.earliest.Goals as goal
use Rattle.automaton.proofs.sweep.Sweep.earliest.Goals.{After-position}

-- the group that `position` finds has the least start
first : (c : After-position) → MatchOption c.position.result (Earliest c.args.self.now.automaton.now c.args.self.now.rows.now c.args.self.now.read None) (λ k. First c.args.self.now.automaton.now c.args.self.now.rows.now c.args.self.now.read (get_or c.args.self.now.active.starts k 0))
first c =
    let s = c.args.self.now in
    let last = s.automaton.now.last in
    found s.automaton.now s.rows.now s.read s.active c.requires c.position.result
    (IsFirst-from_position _ _ _ (λ x. bit_and x last ≡ 0 → ⊥) (λ x. bit_and x last ≡ 0) c.position.ensures.ran (YieldsList-from_slice (take s.active.count s.active.sets) c.iter.ensures.rest) (λ x q k. search (rules, tests)) (λ x q k. search (rules, tests)))

pub returns-in_err-k : goal.returns-in_err-k
returns-in_err-k c = search (rules, first (goal.at.returns-in_err-k c).After-position)

pub returns : goal.returns
returns c = search (rules, first (goal.at.returns c).After-position)
