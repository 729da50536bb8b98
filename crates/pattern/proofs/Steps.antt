-- The steps of the reader: what is known before a turn gives what is known after it.
use Rattle.std.proofs.Common.{◌≡◌, ◌≢◌, ℕ, zero, suc, ◌+◌, ◌*◌, ◌<◌, ◌≤◌, Bool, true, false, ◌||◌, List, [], ◌∷◌, ◌++◌, length, get_or, Ok, Result, sym, refl, ap, ◌∙◌, subst, append_assoc, append-nil, add-one, arith, MatchResult}
use Rattle.std.proofs.lemmas.Bool.{false≢true}
use Rattle.std.specs.Result.{IsErrAnd}
use Rattle.std.proofs.lemmas.Result.{MatchResult-weaker, err_from_is_err_and}
use Rattle.pattern.specs.declared.fault.Fault.{Fault}
use Rattle.pattern.specs.declared.fault.Fault.TheVariants.{LooseBracket}
use Rattle.pattern.specs.declared.token.Kind.{Kind}
use Rattle.pattern.specs.declared.token.Token.{Token}
use Rattle.pattern.specs.declared.node.Node.{Node}
use Rattle.pattern.specs.declared.reader.Reader.{Reader}
use Rattle.pattern.specs.declared.reader.Part.{Part}
use Rattle.pattern.specs.Expressions.{Expr, test, tag, has_tag}
use Rattle.pattern.specs.Tokens.{token, code_of, tag_of}
use Rattle.pattern.specs.Descent.{Source, look, at, kind_at, offset_at, codes_before, tags_before, codes, tags, is_end, is_plain, Out, good, bad, Want, group, item, unit, repeats, Parses, unit_test, unit_group, unit_group_loose, unit_tag, unit_tag_loose, item_then}
use Rattle.pattern.specs.Trees.{node, Stands, a_test, a_seq, an_or, a_star, a_plus, an_opt, a_tag}
use Rattle.pattern.specs.Nodes.{source_of, kind_here, offset_here, Means, Past, Added, Kept, Did, Came, SoFar, Repeated}

pub absurd_of : {A : Type 0} → false ≡ true → A
absurd_of e = absurd (false≢true e)

pub look_in : (end : ℕ) (ts : List Token) (i : ℕ) (d : Token) → i < length ts → get_or ts i d ≡ look end ts i
look_in end [] i d h = elim h [ ]
look_in end (t ∷ ts) zero d h = refl
look_in end (t ∷ ts) (suc i) d h = look_in end ts i d (omega arith)

pub look_past : (end : ℕ) (ts : List Token) (i : ℕ) → length ts ≤ i → token Kind.End end ≡ look end ts i
look_past end [] i h = refl
look_past end (t ∷ ts) zero h = elim h [ ]
look_past end (t ∷ ts) (suc i) h = look_past end ts i (omega arith)

-- a token that is not the end is before it
look_some : (end : ℕ) (ts : List Token) (i : ℕ) → is_end (look end ts i).kind ≡ false → i < length ts
look_some end [] i e = absurd_of (sym e)
look_some end (t ∷ ts) zero e = omega arith
look_some end (t ∷ ts) (suc i) e = let h = look_some end ts i e in omega arith

pub at_some : (s : Source) (i : ℕ) (k : Kind) → kind_at s i ≡ k → is_end k ≡ false → i < length s.list
at_some s i k e t = look_some s.end s.list i (ap is_end e ∙ t)

pub plain : (k : Kind) → is_plain k ≡ true → (code_of k ≡ []) × (tag_of k ≡ 0) × (is_end k ≡ false)
plain k e = (grind arith, grind arith, grind arith)

-- the token that was looked at, by its kind and its offset
pub kind_is : (s : Source) (i : ℕ) {t : Token} {k : Kind} → t ≡ at s i → t.kind ≡ k → kind_at s i ≡ k
kind_is s i e h = ap (λ x. x.kind) (sym e) ∙ h

pub faulted : (s : Source) (i : ℕ) {s' : Source} {w : Want} {j : ℕ} {t : Token} → t ≡ at s i → (make : ℕ → Fault) → Parses s' w j (bad (make (offset_at s i))) → Parses s' w j (bad (make t.offset))
faulted s i {s' = s'} {w = w} {j = j} e make r = let P : Token → Type 0 = λ x. Parses s' w j (bad (make x.offset)) in subst P (sym e) r

-- the same reading, in an equal source and at an equal place
pub carried : {s s' : Source} {w : Want} {i i' : ℕ} {o : Out} → s' ≡ s → i' ≡ i → Parses s' w i' o → Parses s w i o
carried {s = s} {w = w} {i' = i'} {o = o} p q x = let P : ℕ → Type 0 = λ j. Parses s w j o in subst P q (subst (λ t. Parses t w i' o) p x)

came_to : {s : Source} {w : Want} {i j j' : ℕ} {e : Expr} → j' ≡ j → Parses s w i (good e j') → Parses s w i (good e j)
came_to {s = s} {w = w} {i = i} {e = e} q x = let P : ℕ → Type 0 = λ j. Parses s w i (good e j) in subst P q x

-- what stands for an expression by nodes below u still does where those stay
pub moved : (ns ms : List Node) (u : ℕ) → ((j : ℕ) → j < u → node ms j ≡ node ns j) → {k : ℕ} {e : Expr} → k < u → Stands ns k e → Stands ms k e
moved ns ms u same h (a_test x) = a_test (same _ h ∙ x)
moved ns ms u same h (a_seq {k = k} {a = a} {b = b} x l m s r) = a_seq (same k h ∙ x) l m (moved ns ms u same {k = a} (omega arith) s) (moved ns ms u same {k = b} (omega arith) r)
moved ns ms u same h (an_or {k = k} {a = a} {b = b} x l m s r) = an_or (same k h ∙ x) l m (moved ns ms u same {k = a} (omega arith) s) (moved ns ms u same {k = b} (omega arith) r)
moved ns ms u same h (a_star {k = k} {a = a} x l s) = a_star (same k h ∙ x) l (moved ns ms u same {k = a} (omega arith) s)
moved ns ms u same h (a_plus {k = k} {a = a} x l s) = a_plus (same k h ∙ x) l (moved ns ms u same {k = a} (omega arith) s)
moved ns ms u same h (an_opt {k = k} {a = a} x l s) = an_opt (same k h ∙ x) l (moved ns ms u same {k = a} (omega arith) s)
moved ns ms u same h (a_tag {k = k} {a = a} x l s) = a_tag (same k h ∙ x) l (moved ns ms u same {k = a} (omega arith) s)

-- one place on, the token there is counted
pub codes_none : (ts : List Token) → codes_before ts 0 ≡ []
codes_none [] = refl
codes_none (t ∷ ts) = refl

pub tags_none : (ts : List Token) → tags_before ts 0 ≡ 0
tags_none [] = refl
tags_none (t ∷ ts) = refl

codes_suc : (end : ℕ) (ts : List Token) (i : ℕ) → codes_before ts (suc i) ≡ codes_before ts i ++ code_of (look end ts i).kind
codes_suc end [] i = refl
codes_suc end (t ∷ ts) zero = ap (λ l. code_of t.kind ++ l) (codes_none ts) ∙ append-nil (code_of t.kind)
codes_suc end (t ∷ ts) (suc i) = ap (λ l. code_of t.kind ++ l) (codes_suc end ts i) ∙ sym (append_assoc (code_of t.kind) (codes_before ts i) (code_of (look end ts i).kind))

tags_suc : (end : ℕ) (ts : List Token) (i : ℕ) → tags_before ts (suc i) ≡ tags_before ts i + tag_of (look end ts i).kind
tags_suc end [] i = omega arith
tags_suc end (t ∷ ts) zero = let q = tags_none ts in omega arith
tags_suc end (t ∷ ts) (suc i) = let h = tags_suc end ts i in omega arith

pub codes_next : (s : Source) (i : ℕ) (k : Kind) → kind_at s i ≡ k → codes s (i + 1) ≡ codes s i ++ code_of k
codes_next s i k e = rw add-one (codes_suc s.end s.list i ∙ ap (λ x. codes s i ++ code_of x) e)

pub tags_next : (s : Source) (i : ℕ) (k : Kind) → kind_at s i ≡ k → tags s (i + 1) ≡ tags s i + tag_of k
tags_next s i k e = rw add-one (tags_suc s.end s.list i ∙ ap (λ x. tags s i + tag_of x) e)

-- what a token is that no arm took
both : {a b c d : Bool} → a ≡ b → c ≡ d → a || c ≡ b || d
both {b = b} {c = c} p q = ap (λ x. x || c) p ∙ ap (λ y. b || y) q

-- one part of the reading after another
onward : {A E r : Reader} {k : ℕ} → source_of E ≡ source_of A → A.pos ≤ E.pos → E.used + 2 * A.pos ≤ A.used + 2 * E.pos → A.used ≤ E.used
    → ((a : ℕ) (e : Expr) → a < A.used → Stands A.nodes a e → Stands E.nodes a e) → Kept E k r → Kept A k r
onward same rose room grew stays h =
    record {
      same = h.same ∙ same;
      below = h.below;
      rose = omega arith;
      room = omega arith;
      grew = omega arith;
      stays = λ x e l s. h.stays x e (omega arith) (stays x e l s);
    }

pub kept_on : {A E r : Reader} {k₀ k : ℕ} → Kept A k₀ E → Kept E k r → Kept A k r
kept_on b h = onward b.same b.rose b.room b.grew b.stays h

past_stands : {A r : Reader} {a : ℕ} {e : Expr} → Past A r → Stands A.nodes a e → Stands r.nodes a e
past_stands {a = a} {e = e} p s = subst (λ ns. Stands ns a e) (sym p.nodes) s

from_past : {A E r : Reader} {k : ℕ} → Past A E → Kept E k r → Kept A k r
from_past p h = onward p.same (omega arith) (omega arith) (omega arith) (λ x e l s. past_stands p s) h

-- what comes behind such a part, with k among its nodes
further : {A E r : Reader} {j k : ℕ} → Kept A j E → source_of r ≡ source_of E → k < r.used → E.pos ≤ r.pos → r.used + 2 * A.pos ≤ A.used + 2 * r.pos → E.used ≤ r.used
    → ((a : ℕ) (e : Expr) → a < E.used → Stands E.nodes a e → Stands r.nodes a e) → Kept A k r
further h same below rose room grew stays =
    record {
      same = same ∙ h.same;
      below = below;
      rose = omega arith;
      room = room;
      grew = omega arith;
      stays = λ x e l s. stays x e (omega arith) (h.stays x e l s);
    }

to_past : {A E r : Reader} {k : ℕ} → Kept A k E → Past E r → Kept A k r
to_past h p = further h p.same (omega arith) (omega arith) (omega arith) (omega arith) (λ x e l s. past_stands p s)

-- a node is added where there is room for one
added_stands : {A r : Reader} {n : Node} {k a : ℕ} {e : Expr} → Added n A k r → a < A.used → Stands A.nodes a e → Stands r.nodes a e
added_stands {A = A} {r = r} a l s = moved A.nodes r.nodes A.used a.others l s

to_added : {A E r : Reader} {n : Node} {j k : ℕ} → Kept A j E → E.used + 2 * A.pos < A.used + 2 * E.pos → Added n E k r → Kept A k r
to_added h spare a = further h a.same (omega arith) (omega arith) (omega arith) (omega arith) (λ x e l s. added_stands a l s)

-- a turn over `*`, `+` or `?`
pub repeat_turn : {E r r₂ r₃ : Reader} {v u : Part} {k : ℕ} {n : Node} → SoFar repeats E v u r → (op : Expr → Expr) → ((e : Expr) → has_tag (op e) ≡ has_tag e) → ((e : Expr) (o : Out) → u.tagged ≡ has_tag e → Parses (source_of r) (repeats (op e)) (r.pos + 1) o → Parses (source_of r) (repeats e) r.pos o) → ((ns : List Node) (j : ℕ) (e : Expr) → node ns j ≡ n → u.root < j → Stands ns u.root e → Stands ns j (op e)) → Past r r₂ → Added n r₂ k r₃ → SoFar repeats E v (record { root = k; tagged = u.tagged }) r₃
repeat_turn {r₃ = r₃} {k = k} inv op same_tag rule stands p a =
    let b = to_past inv.kept p in
    record {
      kept = to_added b (omega arith) a;
      gone = λ e x.
          let g = inv.gone e x in
          let m = g.means in
          record {
            expr = op g.expr;
            onward = λ o z. g.onward o (rule g.expr o m.mark (carried (a.same ∙ p.same) (a.pos ∙ p.pos) z));
            means = record { stands = stands r₃.nodes k g.expr a.here (omega arith) (added_stands a b.below (past_stands p m.stands)); mark = m.mark ∙ sym (same_tag g.expr) };
          };
    }

-- the whole, from its first part and the rest that was read
pub ended : {w w₁ : Want} {more : Expr → Want} {A E r : Reader} {k₀ k : Part} → ((e : Expr) (o : Out) → Parses (source_of A) w₁ A.pos (good e E.pos) → Parses (source_of A) (more e) E.pos o → Parses (source_of A) w A.pos o) → Did w₁ A k₀ E → SoFar more E k₀ k r → ((e : Expr) → Parses (source_of r) (more e) r.pos (good e r.pos)) → Did w A k r
ended {r = r} joins d inv last =
    let g = inv.gone d.expr d.means in
    let h = inv.kept in
    let b = d.kept in
    record {
      kept = kept_on b h;
      past = omega arith;
      spare = omega arith;
      expr = g.expr;
      reads = joins d.expr (good g.expr r.pos) d.reads (carried b.same refl (g.onward _ (last g.expr)));
      means = g.means;
    }

-- a fault in the rest is the whole's
pub stopped : {w w₁ : Want} {more : Expr → Want} {A E r : Reader} {k₀ k : Part} {f : Fault} → ((e : Expr) (o : Out) → Parses (source_of A) w₁ A.pos (good e E.pos) → Parses (source_of A) (more e) E.pos o → Parses (source_of A) w A.pos o) → Did w₁ A k₀ E → SoFar more E k₀ k r → ((e : Expr) → Parses (source_of r) (more e) r.pos (bad f)) → Parses (source_of A) w A.pos (bad f)
stopped joins d inv last =
    let g = inv.gone d.expr d.means in
    joins d.expr _ d.reads (carried d.kept.same refl (g.onward _ (last g.expr)))

-- what was added stands for two parts together, by `op` and its node
module _ {E r r₁ r₂ r₃ : Reader} {first left right : Part} {k : ℕ} {t : Bool} (more : Expr → Want) (w : Want) (op : Expr → Expr → Expr) (n : Node)
    (op_tag : (e f : Expr) → has_tag (op e f) ≡ has_tag e || has_tag f)
    (stands : (ns : List Node) (j : ℕ) (e f : Expr) → node ns j ≡ n → left.root < j → right.root < j → Stands ns left.root e → Stands ns right.root f → Stands ns j (op e f)) where
  pub joined_turn : SoFar more E first left r → Kept r left.root r₁ → Did w r₁ right r₂ → ((e f : Expr) (o : Out) → Parses (source_of r) w r₁.pos (good f r₂.pos) → Parses (source_of r) (more (op e f)) r₂.pos o → Parses (source_of r) (more e) r.pos o) → Added n r₂ k r₃ → t ≡ left.tagged || right.tagged → SoFar more E first (record { root = k; tagged = t }) r₃
  joined_turn inv go d rule a te =
      let h = inv.kept in
      let b = d.kept in
      let all = kept_on h (kept_on go b) in
      record {
        kept = to_added all (omega arith) a;
        gone = λ e x.
            let g = inv.gone e x in
            let m = g.means in
            let q = d.means in
            record {
              expr = op g.expr d.expr;
              onward = λ o z. g.onward o (rule g.expr d.expr o (carried go.same refl d.reads) (carried (a.same ∙ b.same ∙ go.same) a.pos z));
              means = record { stands = stands r₃.nodes k g.expr d.expr a.here (omega arith) (omega arith) (added_stands a (omega arith) (b.stays left.root _ (omega arith) (go.stays left.root _ h.below m.stands))) (added_stands a b.below q.stands); mark = te ∙ both m.mark q.mark ∙ sym (op_tag g.expr d.expr) };
            };
      }

-- the reader as it is, and one token on
pub stayed : {r : Reader} {k : ℕ} → k < r.used → Kept r k r
stayed l = record { same = refl; below = l; rose = omega arith; room = omega arith; grew = omega arith; stays = λ x e l s. s }

pub went_on : {r r₁ : Reader} {k : ℕ} → k < r.used → Past r r₁ → Kept r k r₁
went_on l p = to_past (stayed l) p

-- the three units
pub test_unit : {A E r : Reader} {d c k : ℕ} → kind_here A ≡ Kind.Test (Ok c) → A.tests < 64 → Past A E → Added (Node.Test (A.tests + 1)) E k r → Did (unit d) A (record { root = k; tagged = false }) r
test_unit {A = A} is few p a =
    record {
      kept = record {
        same = a.same ∙ p.same;
        below = omega arith;
        rose = omega arith;
        room = omega arith;
        grew = omega arith;
        stays = λ x e l s. added_stands a (omega arith) (past_stands p s);
      };
      past = omega arith;
      spare = omega arith;
      expr = test (length (codes (source_of A) A.pos) + 1);
      reads = came_to (sym (a.pos ∙ p.pos)) (unit_test is (omega (arith, A.tests_are)));
      means = record { stands = a_test (a.here ∙ ap (λ x. Node.Test (x + 1)) A.tests_are); mark = refl };
    }

-- inside a bracket, up to a token, of which the source before the bracket says the same
module _ {A E F : Reader} {k : Part} (d : ℕ) (p : Past A E) (b : Did (group (d + 1)) E k F) where
  within : source_of F ≡ source_of A
  within = b.kept.same ∙ p.same

  kind_within : kind_at (source_of A) F.pos ≡ kind_here F
  kind_within = ap (λ s. kind_at s F.pos) (sym within)

  inner : Parses (source_of A) (group (d + 1)) (A.pos + 1) (good b.expr F.pos)
  inner = carried p.same p.pos b.reads

  loose : {w : Want} {i : ℕ} {f : Fault} → f ≡ LooseBracket (offset_here F) → Parses (source_of A) w i (bad (LooseBracket (offset_at (source_of A) F.pos))) → Parses (source_of A) w i (bad f)
  loose {w = w} {i = i} e x = subst (λ f. Parses (source_of A) w i (bad f)) (sym (e ∙ ap (λ s. LooseBracket (offset_at s F.pos)) within)) x

  pub group_unit : {r : Reader} → kind_here A ≡ Kind.Open → d < 8 → kind_here F ≡ Kind.Close → Past F r → Did (unit d) A k r
  group_unit is few m q =
      record {
        kept = to_past (from_past p b.kept) q;
        past = omega (arith, p.pos, b.past, q.pos);
        spare = omega (arith, p.pos, p.used, b.spare, q.pos, q.used);
        expr = b.expr;
        reads = came_to (sym q.pos) (unit_group is few inner (kind_within ∙ m));
        means = record { stands = past_stands q b.means.stands; mark = b.means.mark };
      }

  pub group_loose : {f : Fault} → kind_here A ≡ Kind.Open → d < 8 → (kind_here F ≢ Kind.Close) × (f ≡ LooseBracket (offset_here F)) → Parses (source_of A) (unit d) A.pos (bad f)
  group_loose is few x = loose x.1 (unit_group_loose is few inner (λ e. x.0 (sym kind_within ∙ e)))

  pub tag_unit : {G r : Reader} {j m : ℕ} → kind_here A ≡ Kind.OpenTag → d < 8 → A.tags < 8 → m ≡ A.tags + 1 → kind_here F ≡ Kind.CloseTag → Past F G → Added (Node.Tag m k.root) G j r → Did (unit d) A (record { root = j; tagged = true }) r
  tag_unit is few free next e q a =
      let h = to_past (from_past p b.kept) q in
      record {
        kept = to_added h (omega (arith, p.pos, p.used, b.spare, q.pos, q.used)) a;
        past = omega (arith, p.pos, b.past, q.pos, a.pos);
        spare = omega (arith, p.pos, p.used, b.spare, q.pos, q.used, a.pos, a.used);
        expr = tag (tags (source_of A) A.pos + 1) b.expr;
        reads = came_to (sym (a.pos ∙ q.pos)) (unit_tag is few (omega (arith, A.tags_are)) inner (kind_within ∙ e));
        means = record { stands = a_tag (a.here ∙ ap (λ z. Node.Tag z k.root) (next ∙ ap (λ z. z + 1) A.tags_are)) (omega (arith, h.below, a.number)) (added_stands a h.below (past_stands q b.means.stands)); mark = refl };
      }

  pub tag_loose : {f : Fault} → kind_here A ≡ Kind.OpenTag → d < 8 → A.tags < 8 → (kind_here F ≢ Kind.CloseTag) × (f ≡ LooseBracket (offset_here F)) → Parses (source_of A) (unit d) A.pos (bad f)
  tag_loose is few free x = loose x.1 (unit_tag_loose is few (omega (arith, A.tags_are)) inner (λ e. x.0 (sym kind_within ∙ e)))

-- what the exit of a `?` returns
pub handed_on : {T : Type 0} {f : Fault} (P : T → Type 0) (Q : Fault → Type 0) (r : Result T Fault) → IsErrAnd r (λ g. g ≡ f) → Q f → MatchResult r P Q
handed_on P Q r x h = let p = err_from_is_err_and r x in rw (p.1, p.2) h

-- a unit, and what repeats it
pub repeated : {A E : Reader} {d : ℕ} {u : Part} (r : Reader) (res : Result Part Fault) → Did (unit d) A u E → MatchResult res (λ k. Repeated E u k r) (λ f. (e : Expr) → Means E.nodes u e → Parses (source_of E) (repeats e) E.pos (bad f)) → Came (item d) A res r
repeated {A = A} {E = E} {d = depth} {u = u} r res d h = MatchResult-weaker res h (λ k x. all k x) (λ f x. item_then d.reads (carried d.kept.same refl (x d.expr d.means)))
  where
    all : (k : Part) → Repeated E u k r → Did (item depth) A k r
    all k x =
        let b = d.kept in
        let q = x.kept in
        let g = x.whole d.expr d.means in
        record {
          kept = kept_on b q;
          past = omega arith;
          spare = omega arith;
          expr = g.0;
          reads = item_then d.reads (carried b.same refl g.1);
          means = g.2;
        }

-- what is noted of the tests and tags before the reader's place, one token on
pub tags_counted : (r : Reader) (k : Kind) → kind_here r ≡ k → r.tags + tag_of k ≡ tags_before r.tokens.now (r.pos + 1)
tags_counted r k is = ap (λ n. n + tag_of k) r.tags_are ∙ sym (tags_next (source_of r) r.pos k is)

-- one place on, over a token that is no test: it is before the end, the tests are the same, and a tag is counted
pub over : (r : Reader) (k : Kind) → kind_here r ≡ k → is_end k ≡ false → code_of k ≡ []
    → (r.pos < length r.tokens.now) × (codes_before r.tokens.now (r.pos + 1) ≡ codes_before r.tokens.now r.pos) × (tags_before r.tokens.now (r.pos + 1) ≡ r.tags + tag_of k)
over r k is some none =
    (at_some (source_of r) r.pos k is some, codes_next (source_of r) r.pos k is ∙ ap (λ l. codes_before r.tokens.now r.pos ++ l) none ∙ append-nil _, sym (tags_counted r k is))
