use Rattle.std.proofs.Common.{◌+◌, ◌-◌, ◌*◌, length}
use Rattle.pattern.specs.Descent.{branches, items}
use Rattle.pattern.specs.Nodes.{SoFar}
use Rattle.pattern.proofs.reader.Reader.+branch_group_item.Given as goal

abbrev pub decreases-branch : goal.decreases-branch
decreases-branch l = 3 * (length l.self.now.tokens.now - l.self.now.pos) + 1

abbrev pub decreases-group : goal.decreases-group
decreases-group l = 3 * (length l.self.now.tokens.now - l.self.now.pos) + 2

abbrev pub decreases-item : goal.decreases-item
decreases-item l = 3 * (length l.self.now.tokens.now - l.self.now.pos)

abbrev pub invariant-branch-loop-self : goal.invariant-branch-loop-self
invariant-branch-loop-self l = SoFar (items l.depth) l.initial.self l.initial.left l.left l.self

abbrev pub decreases-branch-loop-self : goal.decreases-branch-loop-self
decreases-branch-loop-self l = length l.self.tokens.now - l.self.pos

abbrev pub invariant-group-loop-self : goal.invariant-group-loop-self
invariant-group-loop-self l = SoFar (branches l.depth) l.initial.self l.initial.left l.left l.self

abbrev pub decreases-group-loop-self : goal.decreases-group-loop-self
decreases-group-loop-self l = length l.self.tokens.now - l.self.pos
