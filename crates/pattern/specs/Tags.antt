-- Which tests of an expression stand inside which tags.
use Rattle.std.specs.Prelude.{ℕ, zero, suc, ◌+◌, ◌^◌, Bool, false, cond, ◌&&◌, ◌||◌, ◌==◌}
use Rattle.pattern.specs.Expressions.{Expr, test, seq, either, star, plus, opt, tag}

-- the test p stands in the expression
abbrev pub has_test : Expr → ℕ → Bool
has_test (test q) p = q == p
has_test (seq e f) p = has_test e p || has_test f p
has_test (either e f) p = has_test e p || has_test f p
has_test (star e) p = has_test e p
has_test (plus e) p = has_test e p
has_test (opt e) p = has_test e p
has_test (tag n e) p = has_test e p

-- the test p stands inside the tag t
abbrev pub inside : Expr → ℕ → ℕ → Bool
inside (test q) t p = false
inside (seq e f) t p = inside e t p || inside f t p
inside (either e f) t p = inside e t p || inside f t p
inside (star e) t p = inside e t p
inside (plus e) t p = inside e t p
inside (opt e) t p = inside e t p
inside (tag n e) t p = (n == t && has_test e p) || inside e t p

-- the set of the tags from 1 to n that the test p is inside: 2 ^ (t - 1) for each such tag t, added up
abbrev pub tags_up_to : ℕ → Expr → ℕ → ℕ
tags_up_to zero e p = 0
tags_up_to (suc n) e p = tags_up_to n e p + cond (inside e (suc n) p) (2 ^ n) 0

-- the set of the tags, of which there are at most 8, that the test p is inside
unfoldable pub tag_set : Expr → ℕ → ℕ
tag_set e p = tags_up_to 8 e p
