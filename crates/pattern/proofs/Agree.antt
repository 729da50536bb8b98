-- What the reader's functions do comes to what the scan from left to right comes to.
use Rattle.std.proofs.Common.{◌≡◌, ◌≢◌, ℕ, zero, suc, ◌+◌, ◌<◌, ◌≤◌, true, false, List, [], ◌∷◌, ◌++◌, length, drop, Ok, Err, Result, sym, refl, ap, ◌∙◌, subst, add-one, arith}
use Rattle.std.proofs.lemmas.Bool.{lt-ltb, le-ltb, cond-true, cond-false}
use Rattle.pattern.specs.declared.fault.Fault.{Fault}
use Rattle.pattern.specs.declared.fault.Fault.TheVariants.{MissingUnit, LooseBracket, TooDeep}
use Rattle.pattern.specs.declared.token.Kind.{Kind}
use Rattle.pattern.specs.declared.token.Token.{Token}
use Rattle.pattern.specs.Expressions.{Expr, test, either, tag, Syntax}
use Rattle.pattern.specs.Tokens.{code_of, tag_of}
use Rattle.pattern.specs.Scanning.{Before, nothing, so_far, join, choose, Bracket, whole, plain, tagged, Frame, frame, State, want, have, Step, go, stop, unit_step, step, at_end, conclude, scan, scanned}
use Rattle.pattern.specs.Descent.{Source, look, at, kind_at, offset_at, codes, tags, is_end, is_unit, is_repeat, is_opening, Out, good, bad, Want, group, branch, item, unit, branches, items, repeats, Parses, group_then, group_bad, branches_end, branches_or, branches_bad, branch_then, branch_bad, items_end, items_more, items_bad, item_then, item_bad, unit_test, unit_tests, unit_misread, unit_deep, unit_group, unit_group_bad, unit_group_loose, unit_tags, unit_tag, unit_tag_bad, unit_tag_loose, unit_none, repeats_end, repeats_star, repeats_star_tag, repeats_plus, repeats_plus_tag, repeats_opt, Whole, ended, fault, loose}
use Rattle.pattern.proofs.Steps.{codes_next, tags_next, absurd_of}

-- the scan from a place
abbrev run : Source → State → ℕ → Result Syntax Fault
run s st i = scan st (codes s i) (tags s i) s.end (drop i s.list)

-- one token, at a place
abbrev step_at : Source → State → ℕ → Kind → Step
step_at s st i k = step st (offset_at s i) (length (codes s i)) (tags s i) k

step_list : (end : ℕ) (ts : List Token) (i : ℕ) → is_end (look end ts i).kind ≡ false → drop i ts ≡ look end ts i ∷ drop (suc i) ts
step_list end [] i n = absurd_of (sym n)
step_list end (t ∷ ts) zero n = refl
step_list end (t ∷ ts) (suc i) n = step_list end ts i n

-- one token on
run_go : (s : Source) (i : ℕ) (k : Kind) (st st' : State) → kind_at s i ≡ k → is_end k ≡ false → step_at s st i k ≡ go st' → run s st i ≡ run s st' (i + 1)
run_go s i k st st' e n h =
    let d : drop i s.list ≡ at s i ∷ drop (i + 1) s.list = rw add-one (step_list s.end s.list i (ap is_end e ∙ n)) in
    let here : step_at s st i (kind_at s i) ≡ go st' = ap (step_at s st i) e ∙ h in
    ap (λ l. scan st (codes s i) (tags s i) s.end l) d
    ∙ ap (λ z. elim z as (λ _. Result Syntax Fault) [ go s'' ↦ scan s'' (codes s i ++ code_of (kind_at s i)) (tags s i + tag_of (kind_at s i)) s.end (drop (i + 1) s.list) | stop r ↦ conclude (codes s i) (tags s i) r ]) here
    ∙ ap (λ z. scan st' z (tags s i + tag_of (kind_at s i)) s.end (drop (i + 1) s.list)) (sym (codes_next s i _ refl))
    ∙ ap (λ z. scan st' (codes s (i + 1)) z s.end (drop (i + 1) s.list)) (sym (tags_next s i _ refl))

end_is : (st : State) (i t g : ℕ) → step st i t g Kind.End ≡ stop (at_end st i)
end_is (want f gs) i t g = refl
end_is (have f e gs) i t g = refl

unstop : {a b : Result Expr Fault} → stop a ≡ stop b → a ≡ b
unstop e = cc

stop_list : (end : ℕ) (l : List Token) (cs : List ℕ) (g : ℕ) (st : State) (r : Result Expr Fault) → step st (look end l 0).offset (length cs) g (look end l 0).kind ≡ stop r → scan st cs g end l ≡ conclude cs g r
stop_list end [] cs g st r h = ap (conclude cs g) (unstop (sym (end_is st end (length cs) g) ∙ h))
stop_list end (t ∷ l) cs g st r h = ap (λ z. elim z as (λ _. Result Syntax Fault) [ go s'' ↦ scan s'' (cs ++ code_of t.kind) (g + tag_of t.kind) end l | stop x ↦ conclude cs g x ]) h

look_drop : (end : ℕ) (ts : List Token) (i : ℕ) → look end (drop i ts) 0 ≡ look end ts i
look_drop end [] zero = refl
look_drop end [] (suc i) = refl
look_drop end (t ∷ ts) zero = refl
look_drop end (t ∷ ts) (suc i) = look_drop end ts i

-- the scan stops here
run_stop : (s : Source) (i : ℕ) (k : Kind) (st : State) (r : Result Expr Fault) → kind_at s i ≡ k → step_at s st i k ≡ stop r → run s st i ≡ conclude (codes s i) (tags s i) r
run_stop s i k st r e h =
    let here : step_at s st i (kind_at s i) ≡ stop r = ap (step_at s st i) e ∙ h in
    let P : Token → Type 0 = λ t. step st t.offset (length (codes s i)) (tags s i) t.kind ≡ stop r in
    stop_list s.end (drop i s.list) (codes s i) (tags s i) st r (subst P (sym (look_drop s.end s.list i)) here)

-- a kind at which a group ends
data Ending : Kind → Type 0 where
  at_close : Ending Kind.Close
  at_close_tag : Ending Kind.CloseTag
  at_the_end : Ending Kind.End

ending : (k : Kind) → is_repeat k ≡ false → is_unit k ≡ false → k ≢ Kind.Or → Ending k
ending k r u o = grind (arith, at_close, at_close_tag, at_the_end)

abbrev At : Source → Out → (Kind → Type 0) → Type 0
At s (good e j) P = P (kind_at s j)
At s (bad f) P = Unit {0}

abbrev Stops : Source → Want → ℕ → Out → Type 0
Stops s (group d) i o = At s o Ending
Stops s (branches d e) i o = is_repeat (kind_at s i) ≡ false → is_unit (kind_at s i) ≡ false → At s o Ending
Stops s (branch d) i o = At s o (λ k. (is_repeat k ≡ false) × (is_unit k ≡ false))
Stops s (items d e) i o = is_repeat (kind_at s i) ≡ false → At s o (λ k. (is_repeat k ≡ false) × (is_unit k ≡ false))
Stops s (item d) i o = At s o (λ k. is_repeat k ≡ false)
Stops s (unit d) i o = Unit {0}
Stops s (repeats e) i o = At s o (λ k. is_repeat k ≡ false)

stops : {s : Source} {w : Want} {i : ℕ} {o : Out} → Parses s w i o → Stops s w i o
stops (group_then d r) = let x = stops d in stops r x.0 x.1
stops (group_bad d) = tt
stops (branches_end h) = λ r u. ending _ r u h
stops (branches_or h d r) = λ _ _. let x = stops d in stops r x.0 x.1
stops (branches_bad h d) = λ _ _. tt
stops (branch_then d r) = stops r (stops d)
stops (branch_bad d) = tt
stops (items_end h) = λ r. (r, h)
stops (items_more h d r) = λ _. stops r (stops d)
stops (items_bad h d) = λ _. tt
stops (item_then d r) = stops r
stops (item_bad d) = tt
stops (unit_test h n) = tt
stops (unit_tests h n) = tt
stops (unit_misread h) = tt
stops (unit_deep h n) = tt
stops (unit_group h n d m) = tt
stops (unit_group_bad h n d) = tt
stops (unit_group_loose h n d m) = tt
stops (unit_tags h n g) = tt
stops (unit_tag h n g d m) = tt
stops (unit_tag_bad h n g d) = tt
stops (unit_tag_loose h n g d m) = tt
stops (unit_none h) = tt
stops (repeats_end h) = h
stops (repeats_star h n r) = stops r
stops (repeats_star_tag h n) = tt
stops (repeats_plus h n r) = stops r
stops (repeats_plus_tag h n) = tt
stops (repeats_opt h r) = stops r

unit_same : (k : Kind) → is_unit k ≡ true → (b : Bracket) (x y : Before) (u : Expr) (gs : List Frame) (i t g : ℕ) → step (have (frame b x y) u gs) i t g k ≡ step (want (frame b x (so_far (join y u))) gs) i t g k
unit_same k e b x y u gs i t g = grind arith

no_unit_stop : (k : Kind) → is_unit k ≡ false → (f : Frame) (gs : List Frame) (i t g : ℕ) → unit_step f gs i t g k ≡ stop (Err (MissingUnit i))
no_unit_stop k e f gs i t g = grind arith

loose_stop : {k : Kind} → Ending k → k ≢ Kind.Close → (x y : Before) (u : Expr) (gs : List Frame) (i t g : ℕ) → step (have (frame plain x y) u gs) i t g k ≡ stop (Err (LooseBracket i))
loose_stop n e x y u gs i t g = grind arith

loose_tag_stop : {k : Kind} → Ending k → k ≢ Kind.CloseTag → (n : ℕ) (x y : Before) (u : Expr) (gs : List Frame) (i t g : ℕ) → step (have (frame (tagged n) x y) u gs) i t g k ≡ stop (Err (LooseBracket i))
loose_tag_stop h e n x y u gs i t g = grind arith

loose_whole_stop : {k : Kind} → Ending k → k ≢ Kind.End → (x y : Before) (u : Expr) (gs : List Frame) (i t g : ℕ) → step (have (frame whole x y) u gs) i t g k ≡ stop (Err (LooseBracket i))
loose_whole_stop h e x y u gs i t g = grind arith

deep_stop : (k : Kind) → is_opening k ≡ true → (f : Frame) (gs : List Frame) (i t g : ℕ) → 8 ≤ length gs → unit_step f gs i t g k ≡ stop (Err (TooDeep i))
deep_stop k e f gs i t g h = grind arith

unit_not_end : (k : Kind) → is_unit k ≡ true → is_end k ≡ false
unit_not_end k e = grind arith

-- how the scan goes on after a part
abbrev onward : Source → Frame → Expr → List Frame → Out → Result Syntax Fault
onward s f u gs (good e j) = run s (have f u gs) j
onward s f u gs (bad x) = Err x

abbrev by_item : Source → Frame → List Frame → Out → Result Syntax Fault
by_item s f gs (good e j) = run s (have f e gs) j
by_item s f gs (bad x) = Err x

abbrev Gives : Out → Expr → Type 0
Gives (good e j) x = x ≡ e
Gives (bad f) x = Unit {0}

abbrev Claim : Source → Want → ℕ → Out → Type 0
Claim s (group d) i o = (k : Bracket) → (a : Before) × (b : Before) × (u : Expr) × Gives o (choose a (join b u)) × ((gs : List Frame) → length gs ≡ d → run s (want (frame k nothing nothing) gs) i ≡ onward s (frame k a b) u gs o)
Claim s (branches d e) i o = (k : Bracket) (a b : Before) (u : Expr) → choose a (join b u) ≡ e → (a' : Before) × (b' : Before) × (u' : Expr) × Gives o (choose a' (join b' u')) × ((gs : List Frame) → length gs ≡ d → run s (have (frame k a b) u gs) i ≡ onward s (frame k a' b') u' gs o)
Claim s (branch d) i o = (k : Bracket) (a : Before) → (b : Before) × (u : Expr) × Gives o (join b u) × ((gs : List Frame) → length gs ≡ d → run s (want (frame k a nothing) gs) i ≡ onward s (frame k a b) u gs o)
Claim s (items d e) i o = (k : Bracket) (a b : Before) (u : Expr) → join b u ≡ e → (b' : Before) × (u' : Expr) × Gives o (join b' u') × ((gs : List Frame) → length gs ≡ d → run s (have (frame k a b) u gs) i ≡ onward s (frame k a b') u' gs o)
Claim s (item d) i o = (f : Frame) (gs : List Frame) → length gs ≡ d → run s (want f gs) i ≡ by_item s f gs o
Claim s (unit d) i o = (f : Frame) (gs : List Frame) → length gs ≡ d → run s (want f gs) i ≡ by_item s f gs o
Claim s (repeats e) i o = (f : Frame) (gs : List Frame) → run s (have f e gs) i ≡ by_item s f gs o

over_or : (s : Source) (i : ℕ) → kind_at s i ≡ Kind.Or → (k : Bracket) (a b : Before) (u e : Expr) → choose a (join b u) ≡ e → (gs : List Frame) → run s (have (frame k a b) u gs) i ≡ run s (want (frame k (so_far e) nothing) gs) (i + 1)
over_or s i h k a b u e q gs = run_go s i Kind.Or _ _ h refl refl ∙ ap (λ x. run s (want (frame k (so_far x) nothing) gs) (i + 1)) q

-- two states that take the token at a place alike
same_scan : (s : Source) (i : ℕ) (st st' : State) → is_end (kind_at s i) ≡ false → step_at s st i (kind_at s i) ≡ step_at s st' i (kind_at s i) → run s st i ≡ run s st' i
same_scan s i st st' n h =
    let d : drop i s.list ≡ at s i ∷ drop (i + 1) s.list = rw add-one (step_list s.end s.list i n) in
    let F : Step → Result Syntax Fault = λ z. elim z as (λ _. Result Syntax Fault) [ go s'' ↦ scan s'' (codes s i ++ code_of (kind_at s i)) (tags s i + tag_of (kind_at s i)) s.end (drop (i + 1) s.list) | stop r ↦ conclude (codes s i) (tags s i) r ] in
    ap (λ l. scan st (codes s i) (tags s i) s.end l) d ∙ ap F h ∙ sym (ap (λ l. scan st' (codes s i) (tags s i) s.end l) d)

over_unit : (s : Source) (i : ℕ) → is_unit (kind_at s i) ≡ true → (k : Bracket) (a b : Before) (u e : Expr) → join b u ≡ e → (gs : List Frame) → run s (have (frame k a b) u gs) i ≡ run s (want (frame k a (so_far e)) gs) i
over_unit s i h k a b u e q gs = same_scan s i _ _ (unit_not_end _ h) (unit_same (kind_at s i) h k a b u gs _ _ _) ∙ ap (λ x. run s (want (frame k a (so_far x)) gs) i) q

over_open : (s : Source) (i d : ℕ) → kind_at s i ≡ Kind.Open → d < 8 → (f : Frame) (gs : List Frame) → length gs ≡ d → run s (want f gs) i ≡ run s (want (frame plain nothing nothing) (f ∷ gs)) (i + 1)
over_open s i d h n f gs l = run_go s i Kind.Open _ _ h refl (cond-true _ _ _ (lt-ltb (length gs) 8 (omega arith)))

over_tag : (s : Source) (i d : ℕ) → kind_at s i ≡ Kind.OpenTag → d < 8 → tags s i < 8 → (f : Frame) (gs : List Frame) → length gs ≡ d → run s (want f gs) i ≡ run s (want (frame (tagged (tags s i + 1)) nothing nothing) (f ∷ gs)) (i + 1)
over_tag s i d h n m f gs l =
    let x : Step = go (want (frame (tagged (tags s i + 1)) nothing nothing) (f ∷ gs)) in
    run_go s i Kind.OpenTag _ _ h refl (cond-true _ _ _ (lt-ltb (length gs) 8 (omega arith)) ∙ cond-true _ _ _ (lt-ltb (tags s i) 8 m))

over_close : (s : Source) (i : ℕ) → kind_at s i ≡ Kind.Close → (a b : Before) (u e : Expr) → choose a (join b u) ≡ e → (f : Frame) (gs : List Frame) → run s (have (frame plain a b) u (f ∷ gs)) i ≡ run s (have f e gs) (i + 1)
over_close s i h a b u e q f gs = run_go s i Kind.Close _ _ h refl refl ∙ ap (λ x. run s (have f x gs) (i + 1)) q

over_close_tag : (s : Source) (i n : ℕ) → kind_at s i ≡ Kind.CloseTag → (a b : Before) (u e : Expr) → choose a (join b u) ≡ e → (f : Frame) (gs : List Frame) → run s (have (frame (tagged n) a b) u (f ∷ gs)) i ≡ run s (have f (tag n e) gs) (i + 1)
over_close_tag s i n h a b u e q f gs = run_go s i Kind.CloseTag _ _ h refl refl ∙ ap (λ x. run s (have f (tag n x) gs) (i + 1)) q

more : (f : Frame) (gs : List Frame) (d : ℕ) → length gs ≡ d → length (f ∷ gs) ≡ d + 1
more f gs d l = omega arith

agree : {s : Source} {w : Want} {i : ℕ} {o : Out} → Parses s w i o → Claim s w i o
agree (group_then d r) = λ k.
    let x = agree d k nothing in
    let y = agree r k nothing x.0 x.1 x.2 in
    (y.0, y.1, y.2, y.3, λ gs l. x.3 gs l ∙ y.4 gs l)
agree (group_bad d) = λ k. let x = agree d k nothing in (nothing, nothing, test 0, tt, λ gs l. x.3 gs l)
agree (branches_end h) = λ k a b u q. (a, b, u, q, λ gs l. refl)
agree (branches_or {e = e} {i = i} h d r) = λ k a b u q.
    let x = agree d k (so_far e) in
    let y = agree r k (so_far e) x.0 x.1 (ap (λ z. either e z) x.2) in
    (y.0, y.1, y.2, y.3, λ gs l. over_or _ i h k a b u e q gs ∙ x.3 gs l ∙ y.4 gs l)
agree (branches_bad {e = e} {i = i} h d) = λ k a b u q. let x = agree d k (so_far e) in (a, b, u, tt, λ gs l. over_or _ i h k a b u e q gs ∙ x.3 gs l)
agree (branch_then d r) = λ k a.
    let y = agree r k a nothing _ refl in
    (y.0, y.1, y.2, λ gs l. agree d (frame k a nothing) gs l ∙ y.3 gs l)
agree (branch_bad d) = λ k a. (nothing, test 0, tt, λ gs l. agree d (frame k a nothing) gs l)
agree (items_end h) = λ k a b u q. (b, u, q, λ gs l. refl)
agree (items_more {e = e} {f = f} {i = i} h d r) = λ k a b u q.
    let y = agree r k a (so_far e) f refl in
    (y.0, y.1, y.2, λ gs l. over_unit _ i h k a b u e q gs ∙ agree d (frame k a (so_far e)) gs l ∙ y.3 gs l)
agree (items_bad {e = e} {i = i} h d) = λ k a b u q. (b, u, tt, λ gs l. over_unit _ i h k a b u e q gs ∙ agree d (frame k a (so_far e)) gs l)
agree (item_then d r) = λ f gs l. agree d f gs l ∙ agree r f gs
agree (item_bad d) = λ f gs l. agree d f gs l
agree {s = s} (unit_test {i = i} {c = c} h n) = λ f gs l. run_go s i (Kind.Test (Ok c)) _ _ h refl (cond-true _ _ _ (lt-ltb (length (codes s i)) 64 n))
agree {s = s} (unit_tests {i = i} {c = c} h n) = λ f gs l. run_stop s i (Kind.Test (Ok c)) _ _ h (cond-false _ _ _ (le-ltb (length (codes s i)) 64 n))
agree {s = s} (unit_misread {i = i} {m = m} h) = λ f gs l. run_stop s i (Kind.Test (Err m)) _ _ h refl
agree {s = s} (unit_deep {i = i} h n) = λ f gs l. run_stop s i (kind_at s i) _ _ refl (deep_stop _ h f gs _ _ _ (omega arith))
agree {s = s} (unit_group {d = d₀} {i = i} {e = e} {j = j} h n d m) = λ f gs l.
    let x = agree d plain in
    over_open s i d₀ h n f gs l ∙ x.4 (f ∷ gs) (more f gs d₀ l) ∙ over_close s j m x.0 x.1 x.2 e x.3 f gs
agree {s = s} (unit_group_bad {d = d₀} {i = i} h n d) = λ f gs l. let x = agree d plain in over_open s i d₀ h n f gs l ∙ x.4 (f ∷ gs) (more f gs d₀ l)
agree {s = s} (unit_group_loose {d = d₀} {i = i} {j = j} h n d m) = λ f gs l.
    let x = agree d plain in
    over_open s i d₀ h n f gs l ∙ x.4 (f ∷ gs) (more f gs d₀ l) ∙ run_stop s j (kind_at s j) _ _ refl (loose_stop (stops d) m x.0 x.1 x.2 (f ∷ gs) _ _ _)
agree {s = s} (unit_tags {i = i} h n m) = λ f gs l.
    let x : Step = go (want (frame (tagged (tags s i + 1)) nothing nothing) (f ∷ gs)) in
    run_stop s i Kind.OpenTag _ _ h (cond-true _ _ _ (lt-ltb (length gs) 8 (omega arith)) ∙ cond-false _ _ _ (le-ltb (tags s i) 8 m))
agree {s = s} (unit_tag {d = d₀} {i = i} {e = e} {j = j} h n g d m) = λ f gs l.
    let x = agree d (tagged (tags s i + 1)) in
    over_tag s i d₀ h n g f gs l ∙ x.4 (f ∷ gs) (more f gs d₀ l) ∙ over_close_tag s j (tags s i + 1) m x.0 x.1 x.2 e x.3 f gs
agree {s = s} (unit_tag_bad {d = d₀} {i = i} h n g d) = λ f gs l. let x = agree d (tagged (tags s i + 1)) in over_tag s i d₀ h n g f gs l ∙ x.4 (f ∷ gs) (more f gs d₀ l)
agree {s = s} (unit_tag_loose {d = d₀} {i = i} {j = j} h n g d m) = λ f gs l.
    let x = agree d (tagged (tags s i + 1)) in
    over_tag s i d₀ h n g f gs l ∙ x.4 (f ∷ gs) (more f gs d₀ l) ∙ run_stop s j (kind_at s j) _ _ refl (loose_tag_stop (stops d) m (tags s i + 1) x.0 x.1 x.2 (f ∷ gs) _ _ _)
agree {s = s} (unit_none {i = i} h) = λ f gs l. run_stop s i (kind_at s i) _ _ refl (no_unit_stop _ h f gs _ _ _)
agree (repeats_end h) = λ f gs. refl
agree {s = s} (repeats_star {e = e} {i = i} h n r) = λ f gs. run_go s i Kind.Star _ _ h refl (cond-false _ _ _ n) ∙ agree r f gs
agree {s = s} (repeats_star_tag {e = e} {i = i} h n) = λ f gs. run_stop s i Kind.Star _ _ h (cond-true _ _ _ n)
agree {s = s} (repeats_plus {e = e} {i = i} h n r) = λ f gs. run_go s i Kind.Plus _ _ h refl (cond-false _ _ _ n) ∙ agree r f gs
agree {s = s} (repeats_plus_tag {e = e} {i = i} h n) = λ f gs. run_stop s i Kind.Plus _ _ h (cond-true _ _ _ n)
agree {s = s} (repeats_opt {i = i} h r) = λ f gs. run_go s i Kind.Opt _ _ h refl refl ∙ agree r f gs

begins : (end : ℕ) (ts : List Token) → scanned end ts ≡ run (record { list = ts; end = end }) (want (frame whole nothing nothing) []) 0
begins end [] = refl
begins end (t ∷ ts) = refl

abbrev pub outcome : Source → Out → Result Syntax Fault
outcome s (good e j) = Ok (record { tree = e; codes = codes s j; tags = tags s j })
outcome s (bad f) = Err f

-- the rules give what the scan gives
pub whole_scan : {s : Source} {o : Out} → Whole s o → scanned s.end s.list ≡ outcome s o
whole_scan {s = s} (ended {j = j} d n) =
    let x = agree d whole in
    begins s.end s.list ∙ x.4 [] refl ∙ run_stop s j Kind.End _ _ n refl ∙ ap (λ e. Ok (record { tree = e; codes = codes s j; tags = tags s j })) x.3
whole_scan {s = s} (fault d) = let x = agree d whole in begins s.end s.list ∙ x.4 [] refl
whole_scan {s = s} (loose {j = j} d n) =
    let x = agree d whole in
    begins s.end s.list ∙ x.4 [] refl ∙ run_stop s j (kind_at s j) _ _ refl (loose_whole_stop (stops d) n x.0 x.1 x.2 [] _ _ _)
