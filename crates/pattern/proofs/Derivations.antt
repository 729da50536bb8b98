-- The scan from left to right accepts exactly what the grammar derives.
use Rattle.std.proofs.Common.{◌≡◌, ℕ, zero, suc, ◌+◌, ◌-◌, ◌<◌, ◌≤◌, Bool, true, false, cond, eqb, List, [], ◌∷◌, ◌++◌, length, Some, None, Ok, Err, Option, Result, sym, refl, ap, ◌∙◌, subst, append-nil, arith, ltb-true, MatchResult}
use Rattle.alphabet.specs.declared.Cause.{Cause}
use Rattle.pattern.specs.declared.fault.Fault.{Fault}
use Rattle.pattern.specs.declared.kept.Pattern.{Pattern}
use Rattle.pattern.specs.declared.token.Kind.{Kind}
use Rattle.pattern.specs.declared.token.Token.{Token}
use Rattle.pattern.specs.Expressions.{Expr, test, seq, either, star, plus, opt, tag, Syntax}
use Rattle.pattern.specs.Tokens.{Reading, sign_kind, token, tested, first_token, tokens_from, tokens, code_of, tag_of}
use Rattle.pattern.specs.Scanning.{Before, nothing, so_far, join, choose, Bracket, whole, plain, tagged, Frame, frame, State, want, have, Step, go, stop, unit_step, close_step, close_tag_step, end_step, step, conclude, scan, start, scanned}
use Rattle.pattern.specs.Descent.{is_end}
use Rattle.pattern.specs.Patterns.{syntax, written}
use Rattle.pattern.specs.Grammar.{Nonterminal, group, branch, unit, Seen, one_tag_more, Derives, a_test, a_group, a_tag, none_or_more, one_or_more, none_or_one, first_unit, next_unit, first_branch, next_branch, Derived, Derivable, DerivesOnly}
use Rattle.pattern.proofs.Steps.{absurd_of}
use Rattle.std.proofs.lemmas.Bool.{lt-ltb, cond-true, cond-false}

never : {X Y : Type 0} {x : X} {y : Y} → Err x ≡ Ok y → ⊥
never h = let z : ◌≡◌ {A = ℕ} 0 1 = cc in omega arith

-- one token of the scan
after : (st : State) (cs : List ℕ) (g end : ℕ) (t : Token) (ts : List Token) (z : Step) → step st t.offset (length cs) g t.kind ≡ z → scan st cs g end (t ∷ ts) ≡ elim z [ go st' ↦ scan st' (cs ++ code_of t.kind) (g + tag_of t.kind) end ts | stop r ↦ conclude cs g r ]
after st cs g end t ts z e = ap (λ x. elim x as (λ _. Result Syntax Fault) [ go st' ↦ scan st' (cs ++ code_of t.kind) (g + tag_of t.kind) end ts | stop r ↦ conclude cs g r ]) e

-- one token that is neither a test nor opens a tag
over : (st st' : State) (s : Seen) (end : ℕ) (k : Kind) (i : ℕ) (ts : List Token) → code_of k ≡ [] → tag_of k ≡ 0 → step st i (length s.codes) s.tags k ≡ go st' → scan st s.codes s.tags end (token k i ∷ ts) ≡ scan st' s.codes s.tags end ts
over st st' s end k i ts nc ng e =
    after st s.codes s.tags end (token k i) ts (go st') e
    ∙ ap (λ cs. scan st' cs (s.tags + tag_of k) end ts) (ap (λ l. s.codes ++ l) nc ∙ append-nil s.codes)
    ∙ ap (λ g. scan st' s.codes g end ts) (ap (λ n. s.tags + n) ng ∙ omega arith)

-- From the grammar to the scan.

abbrev Same : ℕ → State → Seen → List Token → State → Seen → List Token → Type 0
Same end st s ts st' s' ts' = scan st s.codes s.tags end ts ≡ scan st' s'.codes s'.tags end ts'

-- before a unit, that a unit was just read is as good as that one is wanted
abbrev Begins : ℕ → Nonterminal → Seen → List Token → Type 0
Begins end group s ts = Unit {0}
Begins end branch s ts = Unit {0}
Begins end unit s ts = (k : Bracket) (a b : Before) (u : Expr) (gs : List Frame) → Same end (have (frame k a b) u gs) s ts (want (frame k a (so_far (join b u))) gs) s ts

begins : (end : ℕ) {p : Nonterminal} {d : ℕ} {s s' : Seen} {ts ts' : List Token} {e : Expr} → Derives p d s ts e s' ts' → Begins end p s ts
begins end (a_test h) = λ k a b u gs. refl
begins end (a_group h r) = λ k a b u gs. refl
begins end (a_tag h m r) = λ k a b u gs. refl
begins end (none_or_more h r) = begins end r
begins end (one_or_more h r) = begins end r
begins end (none_or_one r) = begins end r
begins end (first_unit r) = tt
begins end (next_unit r q) = tt
begins end (first_branch r) = tt
begins end (next_branch r q) = tt

abbrev Scans : ℕ → Nonterminal → ℕ → Seen → List Token → Expr → Seen → List Token → Type 0
Scans end group d s ts e s' ts' = (k : Bracket) → (a : Before) × (b : Before) × (u : Expr) × (choose a (join b u) ≡ e) × ((gs : List Frame) → length gs ≡ d → Same end (want (frame k nothing nothing) gs) s ts (have (frame k a b) u gs) s' ts')
Scans end branch d s ts e s' ts' = (k : Bracket) (a : Before) → (b : Before) × (u : Expr) × (join b u ≡ e) × ((gs : List Frame) → length gs ≡ d → Same end (want (frame k a nothing) gs) s ts (have (frame k a b) u gs) s' ts')
Scans end unit d s ts e s' ts' = (f : Frame) (gs : List Frame) → length gs ≡ d → Same end (want f gs) s ts (have f e gs) s' ts'

scans : (end : ℕ) {p : Nonterminal} {d : ℕ} {s s' : Seen} {ts ts' : List Token} {e : Expr} → Derives p d s ts e s' ts' → Scans end p d s ts e s' ts'
scans end (a_test {s = s} {ts = ts} {code = code} {i = i} h) = λ f gs l.
    let st : State = have f (test (length s.codes + 1)) gs in
    after (want f gs) s.codes s.tags end (token (Kind.Test (Ok code)) i) ts (go st) (cond-true _ _ _ (lt-ltb _ _ h))
    ∙ ap (λ g. scan st (s.codes ++ (code ∷ [])) g end ts) (omega arith)
scans end (a_group {s = s} {s' = s'} {ts = ts} {ts' = ts'} {i = i} {j = j} h r) = λ f gs l.
    let x = scans end r plain in
    over (want f gs) _ s end Kind.Open i ts refl refl (cond-true _ _ _ (lt-ltb (length gs) 8 (omega arith)))
    ∙ x.4 (f ∷ gs) (omega arith)
    ∙ over (have (frame plain x.0 x.1) x.2 (f ∷ gs)) _ s' end Kind.Close j ts' refl refl refl
    ∙ ap (λ u. scan (have f u gs) s'.codes s'.tags end ts') x.3
scans end (a_tag {s = s} {s' = s'} {ts = ts} {ts' = ts'} {i = i} {j = j} h m r) = λ f gs l.
    let x = scans end r (tagged (s.tags + 1)) in
    let st : State = want (frame (tagged (s.tags + 1)) nothing nothing) (f ∷ gs) in
    after (want f gs) s.codes s.tags end (token Kind.OpenTag i) ts (go st) (cond-true _ _ _ (lt-ltb (length gs) 8 (omega arith)) ∙ cond-true _ _ _ (lt-ltb _ _ m))
    ∙ ap (λ cs. scan st cs (s.tags + 1) end ts) (append-nil s.codes)
    ∙ x.4 (f ∷ gs) (omega arith)
    ∙ over (have (frame (tagged (s.tags + 1)) x.0 x.1) x.2 (f ∷ gs)) _ s' end Kind.CloseTag j ts' refl refl refl
    ∙ ap (λ u. scan (have f (tag (s.tags + 1) u) gs) s'.codes s'.tags end ts') x.3
scans end (none_or_more {s' = s'} {ts' = ts'} {e = e} {i = i} h r) = λ f gs l. scans end r f gs l ∙ over (have f e gs) (have f (star e) gs) s' end Kind.Star i ts' refl refl (cond-false _ _ _ h)
scans end (one_or_more {s' = s'} {ts' = ts'} {e = e} {i = i} h r) = λ f gs l. scans end r f gs l ∙ over (have f e gs) (have f (plus e) gs) s' end Kind.Plus i ts' refl refl (cond-false _ _ _ h)
scans end (none_or_one {s' = s'} {ts' = ts'} {e = e} {i = i} r) = λ f gs l. scans end r f gs l ∙ over (have f e gs) (have f (opt e) gs) s' end Kind.Opt i ts' refl refl refl
scans end (first_unit {e = e} r) = λ k a. (nothing, e, refl, λ gs l. scans end r (frame k a nothing) gs l)
scans end (next_unit {f = f} r q) = λ k a.
    let x = scans end r k a in
    (so_far (join x.0 x.1), f, ap (λ z. seq z f) x.2, λ gs l. x.3 gs l ∙ begins end q k a x.0 x.1 gs ∙ scans end q (frame k a (so_far (join x.0 x.1))) gs l)
scans end (first_branch r) = λ k. let x = scans end r k nothing in (nothing, x.0, x.1, x.2, x.3)
scans end (next_branch {s' = s'} {ts' = ts'} {e = e} {i = i} r q) = λ k.
    let x = scans end r k in
    let before : Before = so_far (choose x.0 (join x.1 x.2)) in
    let y = scans end q k before in
    (before, y.0, y.1, ap (λ z. either z (join y.0 y.1)) x.3 ∙ ap (either e) y.2, λ gs l. x.4 gs l ∙ over (have (frame k x.0 x.1) x.2 gs) _ s' end Kind.Or i ts' refl refl refl ∙ y.3 gs l)

pub derived_scans : (end : ℕ) (ts : List Token) (x : Syntax) → Derived ts x → scanned end ts ≡ Ok x
derived_scans end ts x r =
    let y = scans end r whole in
    y.4 [] refl ∙ ap (λ e. Ok (record { tree = e; codes = x.codes; tags = x.tags })) y.3

-- From the scan to the grammar.

-- the branches before the last one of an open group, and what follows them
abbrev BranchesTo : ℕ → Seen → List Token → Before → Seen → List Token → Type 0
BranchesTo d s ts nothing s' ts' = (s ≡ s') × (ts ≡ ts')
BranchesTo d s ts (so_far e) s' ts' = (i : ℕ) × Derives group d s ts e s' (token Kind.Or i ∷ ts')

-- the units before the last one of its last branch
abbrev UnitsTo : ℕ → Seen → List Token → Before → Seen → List Token → Type 0
UnitsTo d s ts nothing s' ts' = (s ≡ s') × (ts ≡ ts')
UnitsTo d s ts (so_far e) s' ts' = Derives branch d s ts e s' ts'

-- an open group that begins with ts is read as far as ts'
record Inside (d : ℕ) (s : Seen) (ts : List Token) (a b : Before) (s' : Seen) (ts' : List Token) : Type 0 where
  mid : Seen
  rest : List Token
  branches : BranchesTo d s ts a mid rest
  units : UnitsTo d mid rest b s' ts'

from_same : {p : Nonterminal} {d : ℕ} {s s' s'' : Seen} {ts ts' ts'' : List Token} {u : Expr} → s ≡ s' → ts ≡ ts' → Derives p d s' ts' u s'' ts'' → Derives p d s ts u s'' ts''
from_same {p = p} {d = d} {s' = s'} {s'' = s''} {ts = ts} {ts'' = ts''} {u = u} e q r = subst (λ x. Derives p d x ts u s'' ts'') (sym e) (subst (λ y. Derives p d s' y u s'' ts'') (sym q) r)

in_row : {d : ℕ} {s s' s'' : Seen} {ts ts' ts'' : List Token} {u : Expr} (b : Before) → UnitsTo d s ts b s' ts' → Derives unit d s' ts' u s'' ts'' → Derives branch d s ts (join b u) s'' ts''
in_row nothing e r = first_unit (from_same e.0 e.1 r)
in_row (so_far e) q r = next_unit q r

in_choice : {d : ℕ} {s s' s'' : Seen} {ts ts' ts'' : List Token} {u : Expr} (a : Before) → BranchesTo d s ts a s' ts' → Derives branch d s' ts' u s'' ts'' → Derives group d s ts (choose a u) s'' ts''
in_choice nothing e r = first_branch (from_same e.0 e.1 r)
in_choice (so_far e) q r = next_branch q.1 r

closed : {d : ℕ} {s s' s'' : Seen} {ts ts' ts'' : List Token} {u : Expr} {a b : Before} → Inside d s ts a b s' ts' → Derives unit d s' ts' u s'' ts'' → Derives group d s ts (choose a (join b u)) s'' ts''
closed {a = a} {b = b} q r = in_choice a q.branches (in_row b q.units r)

abbrev unseen : Seen
unseen = record { codes = []; tags = 0 }

-- Around all k gs d s ts: of the tokens `all`, a group with the bracket k is open, d groups with it but for the whole,
-- those around it are gs, and it begins with ts, before which stands s
data Around (all : List Token) : Bracket → List Frame → ℕ → Seen → List Token → Type 0 where
  outermost : Around all whole [] 0 unseen all
  in_plain : {k : Bracket} {a b : Before} {gs : List Frame} {d i : ℕ} {s s' : Seen} {ts ts' : List Token} → d < 8 → Around all k gs d s ts → Inside d s ts a b s' (token Kind.Open i ∷ ts') → Around all plain (frame k a b ∷ gs) (d + 1) s' ts'
  in_tag : {k : Bracket} {a b : Before} {gs : List Frame} {d i : ℕ} {s s' : Seen} {ts ts' : List Token} → d < 8 → s'.tags < 8 → Around all k gs d s ts → Inside d s ts a b s' (token Kind.OpenTag i ∷ ts') → Around all (tagged (s'.tags + 1)) (frame k a b ∷ gs) (d + 1) (one_tag_more s') ts'

open_groups : {all : List Token} {k : Bracket} {gs : List Frame} {d : ℕ} {s : Seen} {ts : List Token} → Around all k gs d s ts → length gs ≡ d
open_groups outermost = refl
open_groups (in_plain h r q) = let e = open_groups r in omega arith
open_groups (in_tag h m r q) = let e = open_groups r in omega arith

-- the tokens up to ts are read into the state
abbrev Read : List Token → State → Seen → List Token → Type 0
Read all (want (frame k a b) gs) s ts = (d : ℕ) × (s₀ : Seen) × (ts₀ : List Token) × Around all k gs d s₀ ts₀ × Inside d s₀ ts₀ a b s ts
Read all (have (frame k a b) e gs) s ts = (d : ℕ) × (s₀ : Seen) × (ts₀ : List Token) × Around all k gs d s₀ ts₀ × ((s₁ : Seen) × (ts₁ : List Token) × Inside d s₀ ts₀ a b s₁ ts₁ × Derives unit d s₁ ts₁ e s ts)

abbrev plus_kind : Seen → Kind → Seen
plus_kind s k = record { codes = s.codes ++ code_of k; tags = s.tags + tag_of k }

-- what a step leaves: the next state, or a fault
abbrev ReadOn : List Token → Step → Seen → Kind → List Token → Type 0
ReadOn all (go st) s k ts = Read all st (plus_kind s k) ts
ReadOn all (stop (Ok e)) s k ts = ⊥
ReadOn all (stop (Err f)) s k ts = Unit {0}

by_cond : (P : Step → Type 0) (b : Bool) (x y : Step) → (b ≡ true → P x) → (b ≡ false → P y) → P (cond b x y)
by_cond P true x y p q = p refl
by_cond P false x y p q = q refl

same_seen : (s : Seen) (k : Kind) → code_of k ≡ [] → tag_of k ≡ 0 → s ≡ plus_kind s k
same_seen s k nc ng =
    let cs : s.codes ++ code_of k ≡ s.codes = ap (λ l. s.codes ++ l) nc ∙ append-nil s.codes in
    let gs : s.tags + tag_of k ≡ s.tags = omega arith in
    ap (λ l. record { codes = l; tags = s.tags }) (sym cs) ∙ ap (λ n. record { codes = s.codes ++ code_of k; tags = n }) (sym gs)

moved_on : (all : List Token) (st : State) (s : Seen) (ts : List Token) (k : Kind) → code_of k ≡ [] → tag_of k ≡ 0 → Read all st s ts → Read all st (plus_kind s k) ts
moved_on all st s ts k nc ng r = subst (λ x. Read all st x ts) (same_seen s k nc ng) r

fresh : (d : ℕ) (s : Seen) (ts : List Token) → Inside d s ts nothing nothing s ts
fresh d s ts = record { mid = s; rest = ts; branches = (refl, refl); units = (refl, refl) }

-- none of the tokens is the end
abbrev Real : List Token → Type 0
Real [] = Unit {0}
Real (t ∷ ts) = (is_end t.kind ≡ false) × Real ts

module _ (all : List Token) where
  -- a unit is wanted
  wanted : (f : Frame) (gs : List Frame) (s : Seen) (i : ℕ) (ts : List Token) (k : Kind) → Read all (want f gs) s (token k i ∷ ts) → ReadOn all (unit_step f gs i (length s.codes) s.tags k) s k ts
  wanted (frame b x y) gs s i ts (Kind.Test (Ok code)) r =
      by_cond (λ z. ReadOn all z s (Kind.Test (Ok code)) ts) _ _ _
      (λ e. let P : ℕ → Type 0 = λ n. Read all (have (frame b x y) (test (length s.codes + 1)) gs) (record { codes = s.codes ++ (code ∷ []); tags = n }) ts in
      let same : s.tags ≡ s.tags + 0 = omega arith in
      subst P same (r.0, r.1, r.2, r.3, (s, token (Kind.Test (Ok code)) i ∷ ts, r.4, a_test (ltb-true (length s.codes) 64 e))))
      (λ e. tt)
  wanted f gs s i ts (Kind.Test (Err m)) r = tt
  wanted (frame b x y) gs s i ts Kind.Open r =
      by_cond (λ z. ReadOn all z s Kind.Open ts) _ _ _
      (λ e. let n = ltb-true (length gs) 8 e in
      moved_on all (want (frame plain nothing nothing) (frame b x y ∷ gs)) s ts Kind.Open refl refl (r.0 + 1, s, ts, in_plain (omega (arith, n, open_groups r.3)) r.3 r.4, fresh (r.0 + 1) s ts))
      (λ e. tt)
  wanted (frame b x y) gs s i ts Kind.OpenTag r =
      by_cond (λ z. ReadOn all z s Kind.OpenTag ts) _ _ _
      (λ e. by_cond (λ z. ReadOn all z s Kind.OpenTag ts) _ _ _
      (λ q. let n = ltb-true (length gs) 8 e in
      let P : List ℕ → Type 0 = λ cs. Read all (want (frame (tagged (s.tags + 1)) nothing nothing) (frame b x y ∷ gs)) (record { codes = cs; tags = s.tags + 1 }) ts in
      subst P (sym (append-nil s.codes)) (r.0 + 1, one_tag_more s, ts, in_tag (omega (arith, n, open_groups r.3)) (ltb-true s.tags 8 q) r.3 r.4, fresh (r.0 + 1) (one_tag_more s) ts))
      (λ q. tt))
      (λ e. tt)
  wanted f gs s i ts Kind.Or r = tt
  wanted f gs s i ts Kind.Star r = tt
  wanted f gs s i ts Kind.Plus r = tt
  wanted f gs s i ts Kind.Opt r = tt
  wanted f gs s i ts Kind.Close r = tt
  wanted f gs s i ts Kind.CloseTag r = tt
  wanted f gs s i ts Kind.End r = tt

  -- the unit just read is one of a row
  in_a_row : (b : Bracket) (x y : Before) (e : Expr) (gs : List Frame) (s : Seen) (ts : List Token) → Read all (have (frame b x y) e gs) s ts → Read all (want (frame b x (so_far (join y e))) gs) s ts
  in_a_row b x y e gs s ts r =
      let q = r.4 in
      (r.0, r.1, r.2, r.3, record { mid = q.2.mid; rest = q.2.rest; branches = q.2.branches; units = in_row y q.2.units q.3 })

  closing : {b : Bracket} {gs : List Frame} {d : ℕ} {s₀ s : Seen} {ts₀ : List Token} (x y : Before) (e : Expr) (i : ℕ) (ts : List Token) → Around all b gs d s₀ ts₀ → Derives group d s₀ ts₀ (choose x (join y e)) s (token Kind.Close i ∷ ts) → ReadOn all (close_step (frame b x y) e gs i) s Kind.Close ts
  closing x y e i ts outermost r = tt
  closing {s = s} x y e i ts (in_plain {k = k} {a = a} {b = b} {gs = gs} {d = d} {s = s₁} {s' = s₂} {ts = ts₁} {ts' = ts₂} h q p) r =
      moved_on all (have (frame k a b) (choose x (join y e)) gs) s ts Kind.Close refl refl (d, s₁, ts₁, q, (s₂, _, p, a_group h r))
  closing x y e i ts (in_tag h m q p) r = tt

  closing_tag : {b : Bracket} {gs : List Frame} {d : ℕ} {s₀ s : Seen} {ts₀ : List Token} (x y : Before) (e : Expr) (i : ℕ) (ts : List Token) → Around all b gs d s₀ ts₀ → Derives group d s₀ ts₀ (choose x (join y e)) s (token Kind.CloseTag i ∷ ts) → ReadOn all (close_tag_step (frame b x y) e gs i) s Kind.CloseTag ts
  closing_tag x y e i ts outermost r = tt
  closing_tag x y e i ts (in_plain h q p) r = tt
  closing_tag {s = s} x y e i ts (in_tag {k = k} {a = a} {b = b} {gs = gs} {d = d} {s = s₁} {s' = s₂} {ts = ts₁} {ts' = ts₂} h m q p) r =
      moved_on all (have (frame k a b) (tag (s₂.tags + 1) (choose x (join y e))) gs) s ts Kind.CloseTag refl refl (d, s₁, ts₁, q, (s₂, _, p, a_tag h m r))

  -- one token on
  stepped : (st : State) (s : Seen) (i : ℕ) (ts : List Token) (k : Kind) → is_end k ≡ false → Read all st s (token k i ∷ ts) → ReadOn all (step st i (length s.codes) s.tags k) s k ts
  stepped (want f gs) s i ts k n r = wanted f gs s i ts k r
  stepped (have (frame b x y) e gs) s i ts (Kind.Test q) n r = wanted (frame b x (so_far (join y e))) gs s i ts (Kind.Test q) (in_a_row b x y e gs s _ r)
  stepped (have (frame b x y) e gs) s i ts Kind.Open n r = wanted (frame b x (so_far (join y e))) gs s i ts Kind.Open (in_a_row b x y e gs s _ r)
  stepped (have (frame b x y) e gs) s i ts Kind.OpenTag n r = wanted (frame b x (so_far (join y e))) gs s i ts Kind.OpenTag (in_a_row b x y e gs s _ r)
  stepped (have (frame b x y) e gs) s i ts Kind.Or n r =
      moved_on all (want (frame b (so_far (choose x (join y e))) nothing) gs) s ts Kind.Or refl refl
      (r.0, r.1, r.2, r.3, record { mid = s; rest = ts; branches = (i, closed r.4.2 r.4.3); units = (refl, refl) })
  stepped (have (frame b x y) e gs) s i ts Kind.Star n r =
      by_cond (λ z. ReadOn all z s Kind.Star ts) _ _ _ (λ h. tt)
      (λ h. moved_on all (have (frame b x y) (star e) gs) s ts Kind.Star refl refl (r.0, r.1, r.2, r.3, (r.4.0, r.4.1, r.4.2, none_or_more h r.4.3)))
  stepped (have (frame b x y) e gs) s i ts Kind.Plus n r =
      by_cond (λ z. ReadOn all z s Kind.Plus ts) _ _ _ (λ h. tt)
      (λ h. moved_on all (have (frame b x y) (plus e) gs) s ts Kind.Plus refl refl (r.0, r.1, r.2, r.3, (r.4.0, r.4.1, r.4.2, one_or_more h r.4.3)))
  stepped (have (frame b x y) e gs) s i ts Kind.Opt n r =
      moved_on all (have (frame b x y) (opt e) gs) s ts Kind.Opt refl refl (r.0, r.1, r.2, r.3, (r.4.0, r.4.1, r.4.2, none_or_one r.4.3))
  stepped (have (frame b x y) e gs) s i ts Kind.Close n r = closing x y e i ts r.3 (closed r.4.2 r.4.3)
  stepped (have (frame b x y) e gs) s i ts Kind.CloseTag n r = closing_tag x y e i ts r.3 (closed r.4.2 r.4.3)
  stepped (have f e gs) s i ts Kind.End n r = absurd_of (sym n)

  -- the end
  finished : {b : Bracket} {gs : List Frame} {d : ℕ} {s₀ s : Seen} {ts₀ : List Token} (x y : Before) (e : Expr) (end : ℕ) (out : Syntax) → Around all b gs d s₀ ts₀ → Derives group d s₀ ts₀ (choose x (join y e)) s [] → conclude s.codes s.tags (end_step (frame b x y) e end) ≡ Ok out → Derived all out
  finished x y e end out outermost r h = let same : record { tree = choose x (join y e); codes = _; tags = _ } ≡ out = cc in subst (Derived all) same r
  finished x y e end out (in_plain l q p) r h = elim (never h) [ ]
  finished x y e end out (in_tag l m q p) r h = elim (never h) [ ]

  scan_derives : (end : ℕ) (ts : List Token) → Real ts → (st : State) (s : Seen) → Read all st s ts → (out : Syntax) → scan st s.codes s.tags end ts ≡ Ok out → Derived all out
  scan_derives end [] real (want f gs) s r out h = elim (never h) [ ]
  scan_derives end [] real (have (frame b x y) e gs) s r out h = finished x y e end out r.3 (closed r.4.2 r.4.3) h
  scan_derives end (t ∷ ts) real st s r out h = by (step st t.offset (length s.codes) s.tags t.kind) refl (λ st' r' h'. scan_derives end ts real.1 st' (plus_kind s t.kind) r' out h')
    where
      by : (z : Step) → step st t.offset (length s.codes) s.tags t.kind ≡ z → ((st' : State) → Read all st' (plus_kind s t.kind) ts → scan st' (s.codes ++ code_of t.kind) (s.tags + tag_of t.kind) end ts ≡ Ok out → Derived all out) → Derived all out
      by (go st') e on = on st' (let P : Step → Type 0 = λ z. ReadOn all z s t.kind ts in subst P e (stepped st s t.offset ts t.kind real.0 r)) (sym (after st s.codes s.tags end t ts _ e) ∙ h)
      by (stop (Ok x)) e on = elim (let P : Step → Type 0 = λ z. ReadOn all z s t.kind ts in subst P e (stepped st s t.offset ts t.kind real.0 r)) [ ]
      by (stop (Err f)) e on = elim (never (sym (after st s.codes s.tags end t ts _ e) ∙ h)) [ ]

-- no byte is the end
abbrev option_end : Option Kind → Bool
option_end None = false
option_end (Some k) = is_end k

one_of : (b : Bool) (x y : Option Kind) → option_end x ≡ false → option_end y ≡ false → option_end (cond b x y) ≡ false
one_of true x y p q = p
one_of false x y p q = q

sign_real : (b : ℕ) → option_end (sign_kind b) ≡ false
sign_real b = one_of (eqb b 124) _ _ refl (one_of (eqb b 42) _ _ refl (one_of (eqb b 43) _ _ refl (one_of (eqb b 63) _ _ refl (one_of (eqb b 40) _ _ refl (one_of (eqb b 41) _ _ refl (one_of (eqb b 123) _ _ refl (one_of (eqb b 125) _ _ refl refl)))))))

first_real : (reading : Reading) (at b : ℕ) (bytes : List ℕ) → is_end (first_token reading at (b ∷ bytes)).0 ≡ false
first_real reading at b bytes = by (sign_kind b) (sign_real b)
  where
    tests : (r : Result (ℕ × ℕ) Cause) → is_end (tested at (length (b ∷ bytes)) r).0 ≡ false
    tests (Ok p) = refl
    tests (Err c) = refl

    by : (o : Option Kind) → option_end o ≡ false → is_end (elim o as (λ _. Kind × ℕ) [ Some k ↦ (k, 1) | None ↦ tested at (length (b ∷ bytes)) (reading (b ∷ bytes)) ]).0 ≡ false
    by (Some k) e = e
    by None e = tests (reading (b ∷ bytes))

real : (reading : Reading) (at skip : ℕ) (bytes : List ℕ) → Real (tokens_from reading at skip bytes)
real reading at skip [] = tt
real reading at zero (b ∷ bytes) = (first_real reading at b bytes, real reading (at + 1) ((first_token reading at (b ∷ bytes)).1 - 1) bytes)
real reading at (suc skip) (b ∷ bytes) = real reading (at + 1) skip bytes

pub scans_derived : (reading : Reading) (end : ℕ) (bytes : List ℕ) (x : Syntax) → scanned end (tokens reading bytes) ≡ Ok x → Derived (tokens reading bytes) x
scans_derived reading end bytes x h =
    let all = tokens reading bytes in
    scan_derives all end all (real reading 0 0 bytes) start unseen (0, unseen, all, outermost, fresh 0 unseen all) x h

unwrapped : {x y : Syntax} → ◌≡◌ {A = Result Syntax Fault} (Ok x) (Ok y) → x ≡ y
unwrapped h = cc

-- what was read, accepted exactly as the grammar derives it
pub exactly : (reading : Reading) (bytes : List ℕ) → length bytes ≤ 120 → (r : Result Pattern Fault) → written r ≡ scanned (length bytes) (tokens reading bytes) → MatchResult r (λ p. DerivesOnly reading bytes (syntax p)) (λ _. (x : Syntax) → Derivable reading bytes x → ⊥)
exactly reading bytes short (Ok p) e =
    record {
      derivable = record { not_too_long = short; derived = scans_derived reading (length bytes) bytes (syntax p) (sym e) };
      only = λ y d. unwrapped (sym (derived_scans (length bytes) (tokens reading bytes) y d.derived) ∙ sym e);
    }
exactly reading bytes short (Err f) e = λ x d. never (e ∙ derived_scans (length bytes) (tokens reading bytes) x d.derived)
