-- What each function of the reader does with the tokens from a place on. (That these rules come to what the scan from
-- left to right comes to is proved; a reader of the promises needs only the scan and the grammar.)
use Rattle.std.specs.Prelude.{◌≡◌, ◌≢◌, ℕ, zero, suc, ◌+◌, ◌<◌, ◌≤◌, Bool, true, false, List, [], ◌∷◌, ◌++◌, length, Ok, Err}
use Rattle.pattern.specs.declared.fault.Fault.{Fault}
use Rattle.pattern.specs.declared.fault.Fault.TheVariants.{BadTest, MissingUnit, LooseBracket, TooDeep, TooManyTests, TooManyTags, RepeatedTag}
use Rattle.pattern.specs.declared.fault.Misread.{Misread}
use Rattle.pattern.specs.declared.token.Kind.{Kind}
use Rattle.pattern.specs.declared.token.Kind.TheVariants.{Or, Star, Plus, Opt, Open, Close, OpenTag, CloseTag, Test, End}
use Rattle.pattern.specs.declared.token.Token.{Token}
use Rattle.pattern.specs.Expressions.{Expr, test, seq, either, star, plus, opt, tag, has_tag}
use Rattle.pattern.specs.Tokens.{token, code_of, tag_of}

-- a pattern's tokens, and its length in bytes
pub record Source : Type 0 where
  pub list : List Token
  pub end : ℕ

-- such tokens, and the length in bytes
abbrev pub source : List Token → ℕ → Source
source ts end = record { list = ts; end = end }

-- the token at a place; past the last one, the end
abbrev pub look : ℕ → List Token → ℕ → Token
look end [] i = token End end
look end (t ∷ ts) zero = t
look end (t ∷ ts) (suc i) = look end ts i

-- the token at a place of a source
abbrev pub at : Source → ℕ → Token
at s i = look s.end s.list i

-- its kind
abbrev pub kind_at : Source → ℕ → Kind
kind_at s i = (at s i).kind

-- its offset
abbrev pub offset_at : Source → ℕ → ℕ
offset_at s i = (at s i).offset

-- the numbers of the tests before a place
abbrev pub codes_before : List Token → ℕ → List ℕ
codes_before [] i = []
codes_before (t ∷ ts) zero = []
codes_before (t ∷ ts) (suc i) = code_of t.kind ++ codes_before ts i

-- how many tags are opened before a place
abbrev pub tags_before : List Token → ℕ → ℕ
tags_before [] i = 0
tags_before (t ∷ ts) zero = 0
tags_before (t ∷ ts) (suc i) = tag_of t.kind + tags_before ts i

-- the numbers of the tests before a place of a source
abbrev pub codes : Source → ℕ → List ℕ
codes s i = codes_before s.list i

-- how many tags are opened before a place of a source
abbrev pub tags : Source → ℕ → ℕ
tags s i = tags_before s.list i

-- a unit begins here
abbrev pub is_unit : Kind → Bool
is_unit (Test r) = true
is_unit Open = true
is_unit OpenTag = true
is_unit _ = false

-- the end stands here
abbrev pub is_end : Kind → Bool
is_end End = true
is_end _ = false

-- `*`, `+` or `?`
abbrev pub is_repeat : Kind → Bool
is_repeat Star = true
is_repeat Plus = true
is_repeat Opt = true
is_repeat _ = false

-- `(` or `{`
abbrev pub is_opening : Kind → Bool
is_opening Open = true
is_opening OpenTag = true
is_opening _ = false

-- a sign that opens no tag
abbrev pub is_plain : Kind → Bool
is_plain (Test r) = false
is_plain OpenTag = false
is_plain End = false
is_plain _ = true

-- an expression and the place after it, or a fault
pub data Out : Type 0 where
  good : Expr → ℕ → Out
  bad : Fault → Out

-- what is read, with so many groups open: a group, a branch, an item, a unit, or what may follow the expression read so far
pub data Want : Type 0 where
  group branch item unit : ℕ → Want
  branches items : ℕ → Expr → Want
  repeats : Expr → Want

-- Parses s w i o: of the source s, the reading of w that begins at the place i comes out as o
pub data Parses (s : Source) : Want → ℕ → Out → Type 0 where
  -- a group: one or more branches with `|` between them
  group_then : {d i : ℕ} {e : Expr} {j : ℕ} {o : Out} → Parses s (branch d) i (good e j) → Parses s (branches d e) j o → Parses s (group d) i o
  group_bad : {d i : ℕ} {f : Fault} → Parses s (branch d) i (bad f) → Parses s (group d) i (bad f)
  branches_end : {d : ℕ} {e : Expr} {i : ℕ} → kind_at s i ≢ Or → Parses s (branches d e) i (good e i)
  branches_or : {d : ℕ} {e f : Expr} {i j : ℕ} {o : Out} → kind_at s i ≡ Or → Parses s (branch d) (i + 1) (good f j) → Parses s (branches d (either e f)) j o → Parses s (branches d e) i o
  branches_bad : {d : ℕ} {e : Expr} {i : ℕ} {f : Fault} → kind_at s i ≡ Or → Parses s (branch d) (i + 1) (bad f) → Parses s (branches d e) i (bad f)
  -- a branch: one or more items
  branch_then : {d i : ℕ} {e : Expr} {j : ℕ} {o : Out} → Parses s (item d) i (good e j) → Parses s (items d e) j o → Parses s (branch d) i o
  branch_bad : {d i : ℕ} {f : Fault} → Parses s (item d) i (bad f) → Parses s (branch d) i (bad f)
  items_end : {d : ℕ} {e : Expr} {i : ℕ} → is_unit (kind_at s i) ≡ false → Parses s (items d e) i (good e i)
  items_more : {d : ℕ} {e f : Expr} {i j : ℕ} {o : Out} → is_unit (kind_at s i) ≡ true → Parses s (item d) i (good f j) → Parses s (items d (seq e f)) j o → Parses s (items d e) i o
  items_bad : {d : ℕ} {e : Expr} {i : ℕ} {f : Fault} → is_unit (kind_at s i) ≡ true → Parses s (item d) i (bad f) → Parses s (items d e) i (bad f)
  -- an item: a unit and what repeats it
  item_then : {d i : ℕ} {e : Expr} {j : ℕ} {o : Out} → Parses s (unit d) i (good e j) → Parses s (repeats e) j o → Parses s (item d) i o
  item_bad : {d i : ℕ} {f : Fault} → Parses s (unit d) i (bad f) → Parses s (item d) i (bad f)
  -- a unit: a test, a group or a tag
  unit_test : {d i c : ℕ} → kind_at s i ≡ Test (Ok c) → length (codes s i) < 64 → Parses s (unit d) i (good (test (length (codes s i) + 1)) (i + 1))
  unit_tests : {d i c : ℕ} → kind_at s i ≡ Test (Ok c) → 64 ≤ length (codes s i) → Parses s (unit d) i (bad (TooManyTests (offset_at s i)))
  unit_misread : {d i : ℕ} {m : Misread} → kind_at s i ≡ Test (Err m) → Parses s (unit d) i (bad (BadTest m))
  unit_deep : {d i : ℕ} → is_opening (kind_at s i) ≡ true → 8 ≤ d → Parses s (unit d) i (bad (TooDeep (offset_at s i)))
  unit_group : {d i : ℕ} {e : Expr} {j : ℕ} → kind_at s i ≡ Open → d < 8 → Parses s (group (d + 1)) (i + 1) (good e j) → kind_at s j ≡ Close → Parses s (unit d) i (good e (j + 1))
  unit_group_bad : {d i : ℕ} {f : Fault} → kind_at s i ≡ Open → d < 8 → Parses s (group (d + 1)) (i + 1) (bad f) → Parses s (unit d) i (bad f)
  unit_group_loose : {d i : ℕ} {e : Expr} {j : ℕ} → kind_at s i ≡ Open → d < 8 → Parses s (group (d + 1)) (i + 1) (good e j) → kind_at s j ≢ Close → Parses s (unit d) i (bad (LooseBracket (offset_at s j)))
  unit_tags : {d i : ℕ} → kind_at s i ≡ OpenTag → d < 8 → 8 ≤ tags s i → Parses s (unit d) i (bad (TooManyTags (offset_at s i)))
  unit_tag : {d i : ℕ} {e : Expr} {j : ℕ} → kind_at s i ≡ OpenTag → d < 8 → tags s i < 8 → Parses s (group (d + 1)) (i + 1) (good e j) → kind_at s j ≡ CloseTag → Parses s (unit d) i (good (tag (tags s i + 1) e) (j + 1))
  unit_tag_bad : {d i : ℕ} {f : Fault} → kind_at s i ≡ OpenTag → d < 8 → tags s i < 8 → Parses s (group (d + 1)) (i + 1) (bad f) → Parses s (unit d) i (bad f)
  unit_tag_loose : {d i : ℕ} {e : Expr} {j : ℕ} → kind_at s i ≡ OpenTag → d < 8 → tags s i < 8 → Parses s (group (d + 1)) (i + 1) (good e j) → kind_at s j ≢ CloseTag → Parses s (unit d) i (bad (LooseBracket (offset_at s j)))
  unit_none : {d i : ℕ} → is_unit (kind_at s i) ≡ false → Parses s (unit d) i (bad (MissingUnit (offset_at s i)))
  -- none or more of `*`, `+` and `?`
  repeats_end : {e : Expr} {i : ℕ} → is_repeat (kind_at s i) ≡ false → Parses s (repeats e) i (good e i)
  repeats_star : {e : Expr} {i : ℕ} {o : Out} → kind_at s i ≡ Star → has_tag e ≡ false → Parses s (repeats (star e)) (i + 1) o → Parses s (repeats e) i o
  repeats_star_tag : {e : Expr} {i : ℕ} → kind_at s i ≡ Star → has_tag e ≡ true → Parses s (repeats e) i (bad (RepeatedTag (offset_at s i)))
  repeats_plus : {e : Expr} {i : ℕ} {o : Out} → kind_at s i ≡ Plus → has_tag e ≡ false → Parses s (repeats (plus e)) (i + 1) o → Parses s (repeats e) i o
  repeats_plus_tag : {e : Expr} {i : ℕ} → kind_at s i ≡ Plus → has_tag e ≡ true → Parses s (repeats e) i (bad (RepeatedTag (offset_at s i)))
  repeats_opt : {e : Expr} {i : ℕ} {o : Out} → kind_at s i ≡ Opt → Parses s (repeats (opt e)) (i + 1) o → Parses s (repeats e) i o

-- a whole pattern is a group with nothing behind it
pub data Whole (s : Source) : Out → Type 0 where
  ended : {e : Expr} {j : ℕ} → Parses s (group 0) 0 (good e j) → kind_at s j ≡ End → Whole s (good e j)
  fault : {f : Fault} → Parses s (group 0) 0 (bad f) → Whole s (bad f)
  loose : {e : Expr} {j : ℕ} → Parses s (group 0) 0 (good e j) → kind_at s j ≢ End → Whole s (bad (LooseBracket (offset_at s j)))
