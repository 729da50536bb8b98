-- The grammar of patterns: a group holds branches, a branch holds units in a row, and a unit may hold a group.
use Rattle.std.specs.Prelude.{◌≡◌, ℕ, ◌+◌, ◌<◌, ◌≤◌, false, List, [], ◌∷◌, ◌++◌, length, Ok}
use Rattle.pattern.specs.declared.token.Kind.TheVariants.{Or, Star, Plus, Opt, Open, Close, OpenTag, CloseTag, Test}
use Rattle.pattern.specs.declared.token.Token.{Token}
use Rattle.pattern.specs.Expressions.{Expr, test, seq, either, star, plus, opt, tag, has_tag, Syntax}
use Rattle.pattern.specs.Tokens.{Reading, token, tokens}

-- the nonterminals of the grammar
pub data Nonterminal : Type 0 where
  group branch unit : Nonterminal

-- what stands before a place: tests of these numbers, and so many tags
pub record Seen : Type 0 where
  pub codes : List ℕ
  pub tags : ℕ

-- the same with one test more, of this number
abbrev pub one_test_more : Seen → ℕ → Seen
one_test_more s code = record { codes = s.codes ++ (code ∷ []); tags = s.tags }

-- the same with one tag more
abbrev pub one_tag_more : Seen → Seen
one_tag_more s = record { codes = s.codes; tags = s.tags + 1 }

-- Derives n d s ts e s' ts': with d groups open, and s before them, the tokens ts begin with what the nonterminal n derives, and it
-- stands for the expression e; s' is what stands before the tokens ts' that follow it. Tests and tags are numbered as written.
pub data Derives : Nonterminal → ℕ → Seen → List Token → Expr → Seen → List Token → Type 0 where
  a_test : {d : ℕ} {s : Seen} {ts : List Token} {code i : ℕ} → length s.codes < 64
      → Derives unit d s (token (Test (Ok code)) i ∷ ts) (test (length s.codes + 1)) (one_test_more s code) ts
  a_group : {d : ℕ} {s s' : Seen} {ts ts' : List Token} {e : Expr} {i j : ℕ} → d < 8
      → Derives group (d + 1) s ts e s' (token Close j ∷ ts')
      → Derives unit d s (token Open i ∷ ts) e s' ts'
  a_tag : {d : ℕ} {s s' : Seen} {ts ts' : List Token} {e : Expr} {i j : ℕ} → d < 8 → s.tags < 8
      → Derives group (d + 1) (one_tag_more s) ts e s' (token CloseTag j ∷ ts')
      → Derives unit d s (token OpenTag i ∷ ts) (tag (s.tags + 1) e) s' ts'
  none_or_more : {d : ℕ} {s s' : Seen} {ts ts' : List Token} {e : Expr} {i : ℕ} → has_tag e ≡ false
      → Derives unit d s ts e s' (token Star i ∷ ts') → Derives unit d s ts (star e) s' ts'
  one_or_more : {d : ℕ} {s s' : Seen} {ts ts' : List Token} {e : Expr} {i : ℕ} → has_tag e ≡ false
      → Derives unit d s ts e s' (token Plus i ∷ ts') → Derives unit d s ts (plus e) s' ts'
  none_or_one : {d : ℕ} {s s' : Seen} {ts ts' : List Token} {e : Expr} {i : ℕ}
      → Derives unit d s ts e s' (token Opt i ∷ ts') → Derives unit d s ts (opt e) s' ts'
  first_unit : {d : ℕ} {s s' : Seen} {ts ts' : List Token} {e : Expr} → Derives unit d s ts e s' ts' → Derives branch d s ts e s' ts'
  next_unit : {d : ℕ} {s s' s'' : Seen} {ts ts' ts'' : List Token} {e f : Expr} → Derives branch d s ts e s' ts'
      → Derives unit d s' ts' f s'' ts'' → Derives branch d s ts (seq e f) s'' ts''
  first_branch : {d : ℕ} {s s' : Seen} {ts ts' : List Token} {e : Expr} → Derives branch d s ts e s' ts' → Derives group d s ts e s' ts'
  next_branch : {d : ℕ} {s s' s'' : Seen} {ts ts' ts'' : List Token} {e f : Expr} {i : ℕ}
      → Derives group d s ts e s' (token Or i ∷ ts')
      → Derives branch d s' ts' f s'' ts'' → Derives group d s ts (either e f) s'' ts''

-- a whole pattern is a group outside all groups, with nothing behind it
abbrev pub Derived : List Token → Syntax → Type 0
Derived ts x = Derives group 0 (record { codes = []; tags = 0 }) ts x.tree (record { codes = x.codes; tags = x.tags }) []

-- the bytes are not too long, and the grammar derives the pattern x from their tokens
pub record Derivable (reading : Reading) (bytes : List ℕ) (x : Syntax) : Type 0 where
  pub not_too_long : length bytes ≤ 120
  pub derived : Derived (tokens reading bytes) x

-- the grammar derives the pattern x from the bytes, and no other
pub record DerivesOnly (reading : Reading) (bytes : List ℕ) (x : Syntax) : Type 0 where
  pub derivable : Derivable reading bytes x
  pub only : (y : Syntax) → Derivable reading bytes y → y ≡ x
