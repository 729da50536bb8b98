-- The table of a pattern's nodes, and the expressions for which they stand.
use Rattle.std.specs.Prelude.{◌≡◌, ℕ, zero, suc, ◌<◌, List, slice_index_or}
use Rattle.pattern.specs.declared.node.Node.{Node}
use Rattle.pattern.specs.declared.node.Node.TheVariants.{Test, Seq, Or, Star, Plus, Opt, Tag}
use Rattle.pattern.specs.Expressions.{Expr, test, seq, either, star, plus, opt, tag}

-- the node of a number; a test of the number 0 where the table has none
abbrev pub node : List Node → ℕ → Node
node ns k = slice_index_or ns k (Test 0)

-- the expression of a node, from those of its children
abbrev pub from_children : (ℕ → Expr) → Node → Expr
from_children child (Test p) = test p
from_children child (Seq a b) = seq (child a) (child b)
from_children child (Or a b) = either (child a) (child b)
from_children child (Star a) = star (child a)
from_children child (Plus a) = plus (child a)
from_children child (Opt a) = opt (child a)
from_children child (Tag t a) = tag t (child a)

-- the expression for which the node k of a table stands, children below parents; n is above every number on the way
abbrev pub tree : ℕ → List Node → ℕ → Expr
tree zero ns k = test 0
tree (suc n) ns k = from_children (λ j. tree n ns j) (node ns k)

-- the node k of a table stands for an expression, by nodes of smaller numbers
pub data Stands (ns : List Node) : ℕ → Expr → Type 0 where
  a_test : {k p : ℕ} → node ns k ≡ Test p → Stands ns k (test p)
  a_seq : {k a b : ℕ} {e f : Expr} → node ns k ≡ Seq a b → a < k → b < k → Stands ns a e → Stands ns b f → Stands ns k (seq e f)
  an_or : {k a b : ℕ} {e f : Expr} → node ns k ≡ Or a b → a < k → b < k → Stands ns a e → Stands ns b f → Stands ns k (either e f)
  a_star : {k a : ℕ} {e : Expr} → node ns k ≡ Star a → a < k → Stands ns a e → Stands ns k (star e)
  a_plus : {k a : ℕ} {e : Expr} → node ns k ≡ Plus a → a < k → Stands ns a e → Stands ns k (plus e)
  an_opt : {k a : ℕ} {e : Expr} → node ns k ≡ Opt a → a < k → Stands ns a e → Stands ns k (opt e)
  a_tag : {k n a : ℕ} {e : Expr} → node ns k ≡ Tag n a → a < k → Stands ns a e → Stands ns k (tag n e)
