-- What a pattern's tokens come to, from left to right: the pattern as it was written, or the first fault.
use Rattle.std.specs.Prelude.{ℕ, ◌+◌, cond, List, [], ◌∷◌, ◌++◌, length, Ok, Err, Result, nat_le, nat_lt}
use Rattle.pattern.specs.declared.fault.Fault.{Fault}
use Rattle.pattern.specs.declared.fault.Fault.TheVariants.{TooLong, BadTest, MissingUnit, LooseBracket, TooDeep, TooManyTests, TooManyTags, RepeatedTag}
use Rattle.pattern.specs.declared.token.Kind.{Kind}
use Rattle.pattern.specs.declared.token.Kind.TheVariants.{Or, Star, Plus, Opt, Open, Close, OpenTag, CloseTag, Test, End}
use Rattle.pattern.specs.declared.token.Token.{Token}
use Rattle.pattern.specs.Expressions.{Expr, test, seq, either, star, plus, opt, tag, has_tag, Syntax}
use Rattle.pattern.specs.Tokens.{Reading, tokens, code_of, tag_of}

-- what was read before, if anything
pub data Before : Type 0 where
  nothing : Before
  so_far : Expr → Before

-- items that follow each other
abbrev pub join : Before → Expr → Expr
join nothing e = e
join (so_far f) e = seq f e

-- branches with `|` between them
abbrev pub choose : Before → Expr → Expr
choose nothing e = e
choose (so_far f) e = either f e

-- a group: the whole pattern, `( )`, or the tag `{ }` of a number
pub data Bracket : Type 0 where
  whole plain : Bracket
  tagged : ℕ → Bracket

-- a group that is still open: its branches so far, and the items so far of its last branch
pub data Frame : Type 0 where
  frame : Bracket → Before → Before → Frame

-- a unit is wanted, or one was just read; the innermost open group, and those around it
pub data State : Type 0 where
  want : Frame → List Frame → State
  have : Frame → Expr → List Frame → State

-- after one token the scan goes on in a state, or it stops with an expression or a fault
pub data Step : Type 0 where
  go : State → Step
  stop : Result Expr Fault → Step

-- a unit is wanted at the offset i, and t tests and g tags stand before it
abbrev pub unit_step : Frame → List Frame → ℕ → ℕ → ℕ → Kind → Step
unit_step f gs i t g (Test (Ok code)) = cond (nat_lt t 64) (go (have f (test (t + 1)) gs)) (stop (Err (TooManyTests i)))
unit_step f gs i t g (Test (Err m)) = stop (Err (BadTest m))
unit_step f gs i t g Open = cond (nat_lt (length gs) 8) (go (want (frame plain nothing nothing) (f ∷ gs))) (stop (Err (TooDeep i)))
unit_step f gs i t g OpenTag =
    cond (nat_lt (length gs) 8)
    (cond (nat_lt g 8) (go (want (frame (tagged (g + 1)) nothing nothing) (f ∷ gs))) (stop (Err (TooManyTags i))))
    (stop (Err (TooDeep i)))
unit_step f gs i t g _ = stop (Err (MissingUnit i))

-- `)` after the unit e: it closes the innermost open group if that is of its kind
abbrev pub close_step : Frame → Expr → List Frame → ℕ → Step
close_step (frame plain a b) e (f ∷ gs) i = go (have f (choose a (join b e)) gs)
close_step (frame plain a b) e [] i = stop (Err (LooseBracket i))
close_step (frame whole a b) e gs i = stop (Err (LooseBracket i))
close_step (frame (tagged n) a b) e gs i = stop (Err (LooseBracket i))

-- `}` likewise
abbrev pub close_tag_step : Frame → Expr → List Frame → ℕ → Step
close_tag_step (frame (tagged n) a b) e (f ∷ gs) i = go (have f (tag n (choose a (join b e))) gs)
close_tag_step (frame (tagged n) a b) e [] i = stop (Err (LooseBracket i))
close_tag_step (frame whole a b) e gs i = stop (Err (LooseBracket i))
close_tag_step (frame plain a b) e gs i = stop (Err (LooseBracket i))

-- the end after the unit e: it is lawful if no group is open
abbrev pub end_step : Frame → Expr → ℕ → Result Expr Fault
end_step (frame whole a b) e i = Ok (choose a (join b e))
end_step (frame plain a b) e i = Err (LooseBracket i)
end_step (frame (tagged n) a b) e i = Err (LooseBracket i)

-- the unit e ends an item, and the next one begins
abbrev pub with_item : Frame → Expr → Frame
with_item (frame k a b) e = frame k a (so_far (join b e))

-- the unit e ends a branch
abbrev pub with_branch : Frame → Expr → Frame
with_branch (frame k a b) e = frame k (so_far (choose a (join b e))) nothing

-- one token of a kind, at the offset i
abbrev pub step : State → ℕ → ℕ → ℕ → Kind → Step
step (want f gs) i t g k = unit_step f gs i t g k
step (have f e gs) i t g (Test r) = unit_step (with_item f e) gs i t g (Test r)
step (have f e gs) i t g Open = unit_step (with_item f e) gs i t g Open
step (have f e gs) i t g OpenTag = unit_step (with_item f e) gs i t g OpenTag
step (have f e gs) i t g Or = go (want (with_branch f e) gs)
step (have f e gs) i t g Star = cond (has_tag e) (stop (Err (RepeatedTag i))) (go (have f (star e) gs))
step (have f e gs) i t g Plus = cond (has_tag e) (stop (Err (RepeatedTag i))) (go (have f (plus e) gs))
step (have f e gs) i t g Opt = go (have f (opt e) gs)
step (have f e gs) i t g Close = close_step f e gs i
step (have f e gs) i t g CloseTag = close_tag_step f e gs i
step (have f e gs) i t g End = stop (end_step f e i)

-- the end of the bytes, at the offset i
abbrev pub at_end : State → ℕ → Result Expr Fault
at_end (want f gs) i = Err (MissingUnit i)
at_end (have f e gs) i = end_step f e i

-- an expression with the numbers of the tests and of the tags is the pattern as it was written; a fault stays what it is
abbrev pub conclude : List ℕ → ℕ → Result Expr Fault → Result Syntax Fault
conclude codes g (Ok e) = Ok (record { tree = e; codes = codes; tags = g })
conclude codes g (Err f) = Err f

-- the tokens from left to right, after tests of these numbers and g tags; `end` is the pattern's length
abbrev pub scan : State → List ℕ → ℕ → ℕ → List Token → Result Syntax Fault
scan s codes g end [] = conclude codes g (at_end s end)
scan s codes g end (t ∷ ts) =
    elim (step s t.offset (length codes) g t.kind) [
      | go s' ↦ scan s' (codes ++ code_of t.kind) (g + tag_of t.kind) end ts
      | stop r ↦ conclude codes g r
    ]

-- before the first token a unit is wanted, and only the whole pattern is open
abbrev pub start : State
start = want (frame whole nothing nothing) []

-- what a pattern's tokens come to; `end` is the pattern's length
abbrev pub scanned : ℕ → List Token → Result Syntax Fault
scanned end ts = scan start [] 0 end ts

-- what a pattern's bytes come to; a pattern is lawful if this is no fault
abbrev pub syntax_of : Reading → List ℕ → Result Syntax Fault
syntax_of reading bytes = cond (nat_le (length bytes) 120) (scanned (length bytes) (tokens reading bytes)) (Err TooLong)
