-- Which tests may begin a word of an expression, end one, or follow one another, and whether the empty word belongs.
use Rattle.std.specs.Prelude.{ℕ, ◌+◌, Bool, true, false, ◌&&◌, ◌||◌, ◌==◌}
use Rattle.pattern.specs.Expressions.{Expr, test, seq, either, star, plus, opt, tag}

-- the empty word belongs
abbrev pub has_empty : Expr → Bool
has_empty (test p) = false
has_empty (seq e f) = has_empty e && has_empty f
has_empty (either e f) = has_empty e || has_empty f
has_empty (star e) = true
has_empty (plus e) = has_empty e
has_empty (opt e) = true
has_empty (tag n e) = has_empty e

-- the test p may begin a word
abbrev pub begins : Expr → ℕ → Bool
begins (test q) p = q == p
begins (seq e f) p = begins e p || (has_empty e && begins f p)
begins (either e f) p = begins e p || begins f p
begins (star e) p = begins e p
begins (plus e) p = begins e p
begins (opt e) p = begins e p
begins (tag n e) p = begins e p

-- the test p may end a word
abbrev pub ends : Expr → ℕ → Bool
ends (test q) p = q == p
ends (seq e f) p = ends f p || (has_empty f && ends e p)
ends (either e f) p = ends e p || ends f p
ends (star e) p = ends e p
ends (plus e) p = ends e p
ends (opt e) p = ends e p
ends (tag n e) p = ends e p

-- the test q may stand right after the test p
abbrev pub follows : Expr → ℕ → ℕ → Bool
follows (test r) p q = false
follows (seq e f) p q = (follows e p q || follows f p q) || (ends e p && begins f q)
follows (either e f) p q = follows e p q || follows f p q
follows (star e) p q = follows e p q || (ends e p && begins e q)
follows (plus e) p q = follows e p q || (ends e p && begins e q)
follows (opt e) p q = follows e p q
follows (tag n e) p q = follows e p q

-- how many tests there are
abbrev pub size : Expr → ℕ
size (test p) = 1
size (seq e f) = size e + size f
size (either e f) = size e + size f
size (star e) = size e
size (plus e) = size e
size (opt e) = size e
size (tag n e) = size e

-- the tests are numbered from `low` on, each once, from left to right
abbrev pub numbered : Expr → ℕ → Bool
numbered (test p) low = p == low
numbered (seq e f) low = numbered e low && numbered f (low + size e)
numbered (either e f) low = numbered e low && numbered f (low + size e)
numbered (star e) low = numbered e low
numbered (plus e) low = numbered e low
numbered (opt e) low = numbered e low
numbered (tag n e) low = numbered e low
