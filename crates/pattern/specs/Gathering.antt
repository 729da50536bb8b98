-- What is gathered of an expression's positions; the test p has the position p - 1.
use Rattle.std.specs.Prelude.{◌≡◌, ℕ, ◌+◌, ◌<◌, ◌≤◌, true, ◌&&◌, ◌||◌, List, length, slice_index}
use Rattle.automaton.specs.declared.machine.Automaton.{Automaton}
use Rattle.pattern.specs.declared.node.Node.{Node}
use Rattle.pattern.specs.declared.positions.Edges.{Edges}
use Rattle.pattern.specs.Expressions.{Expr}
use Rattle.automaton.specs.Bit.{bit}
use Rattle.pattern.specs.Positions.{has_empty, begins, ends, follows, size, numbered}
use Rattle.pattern.specs.Trees.{Stands}

-- the node k stands for an expression whose tests have numbers from 1 to 64
pub record Numerable (ns : List Node) (k : ℕ) : Type 0 where
  pub in_table : k < 240
  pub expr : Expr
  pub stands : Stands ns k expr
  pub low : ℕ
  pub from_one : 1 ≤ low
  pub to_64 : low + size expr ≤ 65
  pub in_order : numbered expr low ≡ true

-- the positions of `to` now follow each position of `from`, and what followed a position still does
pub record Linked (before : List ℕ) (from to : ℕ) (after : List ℕ) : Type 0 where
  pub kept : length after ≡ length before
  pub follow : (p q : ℕ) → p < 64 → bit (slice_index after p) q ≡ bit (slice_index before p) q || (bit from p && bit to q)

-- the edges of two expressions in a row
pub record Joined (left right out : Edges) : Type 0 where
  pub null : out.nullable ≡ left.nullable && right.nullable
  pub first : (k : ℕ) → bit out.first k ≡ bit left.first k || (left.nullable && bit right.first k)
  pub last : (k : ℕ) → bit out.last k ≡ bit right.last k || (right.nullable && bit left.last k)

-- the edges are those of the expression, and what may follow what in it was added
pub record Gathered (e : Expr) (edges : Edges) (before after : List ℕ) : Type 0 where
  pub null : edges.nullable ≡ has_empty e
  pub first : (k : ℕ) → bit edges.first k ≡ begins e (k + 1)
  pub last : (k : ℕ) → bit edges.last k ≡ ends e (k + 1)
  pub kept : length after ≡ length before
  pub follow : (p q : ℕ) → p < 64 → bit (slice_index after p) q ≡ bit (slice_index before p) q || follows e (p + 1) (q + 1)

-- the automaton's sets are those of the expression
pub record PositionsOf (e : Expr) (a : Automaton) : Type 0 where
  pub empty : a.nullable ≡ has_empty e
  pub first : (k : ℕ) → bit a.first k ≡ begins e (k + 1)
  pub last : (k : ℕ) → bit a.last k ≡ ends e (k + 1)
  pub follow : (p q : ℕ) → p < 64 → bit (slice_index a.follow p) q ≡ follows e (p + 1) (q + 1)
