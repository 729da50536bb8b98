use Rattle.std.proofs.Common.{◌≡◌, ◌-◌, ◌≤◌, ◌++◌, length, drop}
use Rattle.pattern.specs.Tokens.{tokens, tokens_from, SameReading}
use Rattle.pattern.proofs.cutter.cut.Given as goal

abbrev pub invariant-loop-at : goal.invariant-loop-at
invariant-loop-at g l =
    let reading = g.N.Notation.reading l.initial.notation in
    (length l.list.items ≤ l.at) × (l.at ≤ length l.bytes)
    × (l.list.items ++ tokens_from reading l.at 0 (drop l.at l.bytes) ≡ tokens reading l.bytes)
    × (g.N.Alphabet.meaning l.notation ≡ g.N.Alphabet.meaning l.initial.notation)
    × SameReading (g.N.Notation.reading l.notation) reading

abbrev pub decreases-loop-at : goal.decreases-loop-at
decreases-loop-at g l = length l.bytes - l.at
