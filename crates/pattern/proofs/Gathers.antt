-- What is gathered of an expression, from what is gathered of its parts.
use Rattle.std.proofs.Common.{◌≡◌, ℕ, ◌+◌, ◌^◌, ◌<◌, ◌≤◌, true, false, ◌&&◌, ◌||◌, eqb, List, get_or, sym, refl, ap, ◌∙◌, subst, arith, eqb-true}
use Rattle.std.proofs.lemmas.Bool.{eq-eqb}
use Rattle.std.proofs.Math.Bool.{or_assoc, or-false}
use lib.Bits.{bit_or}
use Rattle.pattern.specs.declared.node.Node.{Node}
use Rattle.pattern.specs.declared.node.Node.TheVariants.{Test, Seq, Or, Star, Plus, Opt, Tag}
use Rattle.pattern.specs.declared.positions.Edges.{Edges}
use Rattle.pattern.specs.Expressions.{Expr, test, seq, either, star, plus, opt, tag}
use Rattle.automaton.specs.Bit.{bit}
use Rattle.pattern.specs.Positions.{has_empty, begins, ends, follows, size, numbered}
use Rattle.pattern.specs.Trees.{node, Stands, a_test, a_seq, an_or, a_star, a_plus, an_opt, a_tag}
use Rattle.pattern.specs.Gathering.{Numerable, Linked, Joined, Gathered}
use Rattle.automaton.proofs.BitTests.{same_test}
use Rattle.pattern.proofs.BitSets.{bit_union, bit_one}

-- the expression of a node, by what the node is
abbrev pub View : List Node → ℕ → Node → Expr → Type 0
View ns k (Test p) e = e ≡ test p
View ns k (Seq a b) e = (f : Expr) × (g : Expr) × (e ≡ seq f g) × (a < k) × (b < k) × Stands ns a f × Stands ns b g
View ns k (Or a b) e = (f : Expr) × (g : Expr) × (e ≡ either f g) × (a < k) × (b < k) × Stands ns a f × Stands ns b g
View ns k (Star a) e = (f : Expr) × (e ≡ star f) × (a < k) × Stands ns a f
View ns k (Plus a) e = (f : Expr) × (e ≡ plus f) × (a < k) × Stands ns a f
View ns k (Opt a) e = (f : Expr) × (e ≡ opt f) × (a < k) × Stands ns a f
View ns k (Tag n a) e = (f : Expr) × (e ≡ tag n f) × (a < k) × Stands ns a f

pub view : (ns : List Node) (k : ℕ) (n : Node) {e : Expr} → Stands ns k e → node ns k ≡ n → View ns k n e
view ns k n (a_test {p = p} x) h = subst (λ m. View ns k m (test p)) (sym x ∙ h) refl
view ns k n (a_seq {e = e} {f = f} x l m s r) h = subst (λ m. View ns k m (seq e f)) (sym x ∙ h) (e, f, refl, l, m, s, r)
view ns k n (an_or {e = e} {f = f} x l m s r) h = subst (λ m. View ns k m (either e f)) (sym x ∙ h) (e, f, refl, l, m, s, r)
view ns k n (a_star {e = e} x l s) h = subst (λ m. View ns k m (star e)) (sym x ∙ h) (e, refl, l, s)
view ns k n (a_plus {e = e} x l s) h = subst (λ m. View ns k m (plus e)) (sym x ∙ h) (e, refl, l, s)
view ns k n (an_opt {e = e} x l s) h = subst (λ m. View ns k m (opt e)) (sym x ∙ h) (e, refl, l, s)
view ns k n (a_tag {n = t} {e = e} x l s) h = subst (λ m. View ns k m (tag t e)) (sym x ∙ h) (e, refl, l, s)

-- the number of a test that has one from 1 to 64
pub test_number : (ns : List Node) (k : ℕ) (r : Numerable ns k) (n : ℕ) → node ns k ≡ Test n → (1 ≤ n) × (n ≤ 64)
test_number ns k r n h =
    let e = view ns k (Test n) r.stands h in
    let is : n ≡ r.low = eqb-true n r.low (subst (λ x. numbered x r.low ≡ true) e r.in_order) in
    let one : size r.expr ≡ 1 = ap size e in
    (omega (arith, r.from_one), omega (arith, r.to_64))

-- what is gathered, by an equal expression
pub same_gathered : {e f : Expr} {l : Edges} {f₀ f₁ : List ℕ} → e ≡ f → Gathered f l f₀ f₁ → Gathered e l f₀ f₁
same_gathered {l = l} {f₀ = f₀} {f₁ = f₁} h a = subst (λ x. Gathered x l f₀ f₁) (sym h) a

pub same_edges : {e : Expr} {l m : Edges} {f₀ f₁ : List ℕ} → l ≡ m → Gathered e m f₀ f₁ → Gathered e l f₀ f₁
same_edges {e = e} {f₀ = f₀} {f₁ = f₁} h a = subst (λ x. Gathered e x f₀ f₁) (sym h) a

module _ {before : List ℕ} where
  pub gathered_test : (n j x : ℕ) → n ≡ j + 1 → x ≡ 2 ^ j → Gathered (test n) (record { nullable = false; first = x; last = x }) before before
  gathered_test n j x is e =
      let set : (k : ℕ) → bit x k ≡ eqb n (k + 1) = λ k. ap (λ y. bit y k) e ∙ bit_one j k ∙ same_test _ _ (λ h. eq-eqb n (k + 1) (omega (arith, eqb-true j k h))) (λ h. eq-eqb j k (omega (arith, eqb-true n (k + 1) h))) in
      record { null = refl; first = set; last = set; kept = refl; follow = λ p q h. sym (or-false _) }

-- what followed, what follows in a part, and what follows in another
module _ {e f : Expr} {l r : Edges} {f₀ f₁ f₂ : List ℕ} (a : Gathered e l f₀ f₁) (b : Gathered f r f₁ f₂) where
  both : (p q : ℕ) → p < 64 → bit (get_or f₂ p 0) q ≡ bit (get_or f₀ p 0) q || (follows e (p + 1) (q + 1) || follows f (p + 1) (q + 1))
  both p q h = b.follow p q h ∙ ap (λ x. x || follows f (p + 1) (q + 1)) (a.follow p q h) ∙ or_assoc (bit (get_or f₀ p 0) q) (follows e (p + 1) (q + 1)) (follows f (p + 1) (q + 1))

  pub gathered_seq : {out : Edges} {f₃ : List ℕ} → Linked f₂ l.last r.first f₃ → Joined l r out → Gathered (seq e f) out f₀ f₃
  gathered_seq k j =
      record {
        null = j.null ∙ ap (λ x. x && r.nullable) a.null ∙ ap (λ x. has_empty e && x) b.null;
        first = λ i. j.first i ∙ ap (λ x. x || (l.nullable && bit r.first i)) (a.first i) ∙ ap (λ x. begins e (i + 1) || (x && bit r.first i)) a.null ∙ ap (λ x. begins e (i + 1) || (has_empty e && x)) (b.first i);
        last = λ i. j.last i ∙ ap (λ x. x || (r.nullable && bit l.last i)) (b.last i) ∙ ap (λ x. ends f (i + 1) || (x && bit l.last i)) b.null ∙ ap (λ x. ends f (i + 1) || (has_empty f && x)) (a.last i);
        kept = k.kept ∙ b.kept ∙ a.kept;
        follow = λ p q h. k.follow p q h ∙ ap (λ x. x || (bit l.last p && bit r.first q)) (both p q h) ∙ ap (λ x. (bit (get_or f₀ p 0) q || (follows e (p + 1) (q + 1) || follows f (p + 1) (q + 1))) || (x && bit r.first q)) (a.last p) ∙ ap (λ x. (bit (get_or f₀ p 0) q || (follows e (p + 1) (q + 1) || follows f (p + 1) (q + 1))) || (ends e (p + 1) && x)) (b.first q) ∙ or_assoc (bit (get_or f₀ p 0) q) (follows e (p + 1) (q + 1) || follows f (p + 1) (q + 1)) (ends e (p + 1) && begins f (q + 1));
      }

  pub gathered_either : Gathered (either e f) (record { nullable = l.nullable || r.nullable; first = bit_or l.first r.first; last = bit_or l.last r.last }) f₀ f₂
  gathered_either =
      record {
        null = ap (λ x. x || r.nullable) a.null ∙ ap (λ x. has_empty e || x) b.null;
        first = λ i. bit_union l.first r.first i ∙ ap (λ x. x || bit r.first i) (a.first i) ∙ ap (λ x. begins e (i + 1) || x) (b.first i);
        last = λ i. bit_union l.last r.last i ∙ ap (λ x. x || bit r.last i) (a.last i) ∙ ap (λ x. ends e (i + 1) || x) (b.last i);
        kept = b.kept ∙ a.kept;
        follow = both;
      }

module _ {e : Expr} {l : Edges} {f₀ f₁ : List ℕ} (a : Gathered e l f₀ f₁) where
  -- a repetition: its ends may be followed by its beginnings
  round : {f₂ : List ℕ} → Linked f₁ l.last l.first f₂ → (p q : ℕ) → p < 64 → bit (get_or f₂ p 0) q ≡ bit (get_or f₀ p 0) q || (follows e (p + 1) (q + 1) || (ends e (p + 1) && begins e (q + 1)))
  round k p q h = k.follow p q h ∙ ap (λ x. x || (bit l.last p && bit l.first q)) (a.follow p q h) ∙ ap (λ x. (bit (get_or f₀ p 0) q || follows e (p + 1) (q + 1)) || (x && bit l.first q)) (a.last p) ∙ ap (λ x. (bit (get_or f₀ p 0) q || follows e (p + 1) (q + 1)) || (ends e (p + 1) && x)) (a.first q) ∙ or_assoc (bit (get_or f₀ p 0) q) (follows e (p + 1) (q + 1)) (ends e (p + 1) && begins e (q + 1))

  pub gathered_star : {f₂ : List ℕ} → Linked f₁ l.last l.first f₂ → Gathered (star e) (record { nullable = true; first = l.first; last = l.last }) f₀ f₂
  gathered_star k = record { null = refl; first = a.first; last = a.last; kept = k.kept ∙ a.kept; follow = round k }

  pub gathered_plus : {f₂ : List ℕ} → Linked f₁ l.last l.first f₂ → Gathered (plus e) l f₀ f₂
  gathered_plus k = record { null = a.null; first = a.first; last = a.last; kept = k.kept ∙ a.kept; follow = round k }

  pub gathered_opt : Gathered (opt e) (record { nullable = true; first = l.first; last = l.last }) f₀ f₁
  gathered_opt = record { null = refl; first = a.first; last = a.last; kept = a.kept; follow = a.follow }

  pub gathered_tag : (n : ℕ) → Gathered (tag n e) l f₀ f₁
  gathered_tag n = record { null = a.null; first = a.first; last = a.last; kept = a.kept; follow = a.follow }
