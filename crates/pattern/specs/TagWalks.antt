-- What is gathered of the tags around an expression's tests; the test p has the place p - 1.
use Rattle.std.specs.Prelude.{◌≡◌, ℕ, ◌+◌, ◌<◌, ◌≤◌, ◌&&◌, ◌||◌, List, length, slice_index}
use Rattle.automaton.specs.Bit.{bit}
use Rattle.pattern.specs.declared.node.Node.{Node}
use Rattle.pattern.specs.Expressions.{Expr, test, seq, either, star, plus, opt, tag}
use Rattle.pattern.specs.Tags.{has_test, inside}
use Rattle.pattern.specs.Trees.{Stands}

-- every test of the expression has a number from 1 to 64, and every tag one from 1 to 8
abbrev pub InRange : Expr → Type 0
InRange (test p) = (1 ≤ p) × (p ≤ 64)
InRange (seq e f) = InRange e × InRange f
InRange (either e f) = InRange e × InRange f
InRange (star e) = InRange e
InRange (plus e) = InRange e
InRange (opt e) = InRange e
InRange (tag n e) = (1 ≤ n) × (n ≤ 8) × InRange e

-- the node k stands for an expression whose tests and tags have such numbers
pub record Taggable (ns : List Node) (k : ℕ) : Type 0 where
  pub in_table : k < 240
  pub expr : Expr
  pub stands : Stands ns k expr
  pub in_range : InRange expr

-- the set of each of the expression's tests now has the tags `around` the expression and those within it around the test, and
-- what a set had it still has
pub record Spread (e : Expr) (around : ℕ) (before after : List ℕ) : Type 0 where
  pub kept : length after ≡ length before
  pub sets : (q k : ℕ) → bit (slice_index after q) k ≡ bit (slice_index before q) k || ((has_test e (q + 1) && bit around k) || inside e (k + 1) (q + 1))
