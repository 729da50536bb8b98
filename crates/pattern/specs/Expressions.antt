-- Patterns as expressions, and their words.
use Rattle.std.specs.Prelude.{ℕ, Bool, true, false, ◌||◌, List, [], ◌∷◌, ◌++◌}

-- a regular expression whose tests and tags go by their numbers
pub data Expr : Type 0 where
  test : ℕ → Expr
  seq either : Expr → Expr → Expr
  star plus opt : Expr → Expr
  tag : ℕ → Expr → Expr

-- the expression is or contains a tag
abbrev pub has_tag : Expr → Bool
has_tag (test n) = false
has_tag (seq e f) = has_tag e || has_tag f
has_tag (either e f) = has_tag e || has_tag f
has_tag (star e) = has_tag e
has_tag (plus e) = has_tag e
has_tag (opt e) = has_tag e
has_tag (tag n e) = true

-- the words of test numbers that belong to an expression
pub data Word : Expr → List ℕ → Type 0 where
  one : {p : ℕ} → Word (test p) (p ∷ [])
  join : {e f : Expr} {u v : List ℕ} → Word e u → Word f v → Word (seq e f) (u ++ v)
  left : {e f : Expr} {u : List ℕ} → Word e u → Word (either e f) u
  right : {e f : Expr} {u : List ℕ} → Word f u → Word (either e f) u
  none : {e : Expr} → Word (star e) []
  more : {e : Expr} {u v : List ℕ} → Word e u → Word (star e) v → Word (star e) (u ++ v)
  some : {e : Expr} {u v : List ℕ} → Word e u → Word (star e) v → Word (plus e) (u ++ v)
  skipped : {e : Expr} → Word (opt e) []
  taken : {e : Expr} {u : List ℕ} → Word e u → Word (opt e) u
  tagged : {n : ℕ} {e : Expr} {u : List ℕ} → Word e u → Word (tag n e) u

-- a pattern as it was written: its expression, the numbers by which the alphabet keeps its tests, in their order, and
-- how many tags it has
pub record Syntax : Type 0 where
  pub tree : Expr
  pub codes : List ℕ
  pub tags : ℕ
