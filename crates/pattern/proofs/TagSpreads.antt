-- The tags around an expression's tests, from those of its parts.
use Rattle.std.proofs.Common.{◌≡◌, ℕ, ◌+◌, ◌-◌, ◌^◌, ◌<◌, ◌≤◌, Bool, true, false, ◌&&◌, ◌||◌, eqb, List, length, get_or, set, replicate, sym, refl, ap, ◌∙◌, subst, inl, inr, arith, get_or-set_other, get_or-set_same, eqb-true}
use Rattle.std.proofs.lemmas.Bool.{cases_lt, cases_eq, eq-eqb, ne_eqb}
use Rattle.std.proofs.lemmas.List.{get_or-replicate, get_or_past, length-replicate, length-set}
use Rattle.std.proofs.Math.Bool.{or-false, and-false}
use lib.Bits.{bit_or}
use Rattle.automaton.specs.Bit.{bit}
use Rattle.automaton.proofs.BitTests.{same_test, bit_none}
use Rattle.pattern.specs.Expressions.{Expr, test, seq, either, star, plus, opt, tag}
use Rattle.pattern.specs.Tags.{has_test, inside, tag_set}
use Rattle.pattern.specs.TagWalks.{InRange, Taggable, Spread}
use Rattle.pattern.specs.Trees.{node}
use Rattle.pattern.specs.declared.node.Node.{Node}
use Rattle.pattern.specs.declared.node.Node.TheVariants.{Test, Tag}
use Rattle.pattern.proofs.Gathers.{view}
use Rattle.pattern.proofs.BitSets.{bit_union, bit_one}
use Rattle.pattern.proofs.TagSets.{tag_set_below, tag_set_bit, no_bit, same_bits}

-- the number of a test
pub test_range : {ns : List Node} {k n : ℕ} → Taggable ns k → node ns k ≡ Test n → (1 ≤ n) × (n ≤ 64)
test_range {ns = ns} {k = k} {n = n} t h = subst InRange (view ns k (Test n) t.stands h) t.in_range

-- the number of a tag
pub tag_range : {ns : List Node} {k n a : ℕ} → Taggable ns k → node ns k ≡ Tag n a → (1 ≤ n) × (n ≤ 8)
tag_range {ns = ns} {k = k} {n = n} {a = a} t h = let v = view ns k (Tag n a) t.stands h in let r = subst InRange v.1 t.in_range in (r.0, r.1)

-- what is spread, by an equal expression
pub same_spread : {e f : Expr} {around : ℕ} {s₀ s₁ : List ℕ} → e ≡ f → Spread f around s₀ s₁ → Spread e around s₀ s₁
same_spread {around = around} {s₀ = s₀} {s₁ = s₁} h a = subst (λ x. Spread x around s₀ s₁) (sym h) a

-- one test
pub spread_test : (n around : ℕ) (before : List ℕ) → 1 ≤ n → n ≤ length before → Spread (test n) around before (set before (n - 1) (bit_or (get_or before (n - 1) 0) around))
spread_test n around before low high =
    let after : List ℕ = set before (n - 1) (bit_or (get_or before (n - 1) 0) around) in
    record {
      kept = length-set before (n - 1) (bit_or (get_or before (n - 1) 0) around);
      sets = λ q k. elim (cases_eq n (q + 1)) [
        | inl e ↦
            (let is : n - 1 ≡ q = omega arith in
            let here : get_or after q 0 ≡ bit_or (get_or before q 0) around = subst (λ j. get_or after j 0 ≡ bit_or (get_or before j 0) around) is (get_or-set_same before (n - 1) (bit_or (get_or before (n - 1) 0) around) 0 (omega arith)) in
            ap (λ x. bit x k) here ∙ bit_union (get_or before q 0) around k ∙ ap (λ x. bit (get_or before q 0) k || x) (sym (or-false (bit around k)) ∙ ap (λ b. (b && bit around k) || false) (sym (eq-eqb n (q + 1) e))))
        | inr ne ↦
            ap (λ x. bit x k) (get_or-set_other before (n - 1) q (bit_or (get_or before (n - 1) 0) around) 0 (λ h. ne (omega arith)))
            ∙ sym (or-false (bit (get_or before q 0) k)) ∙ ap (λ b. bit (get_or before q 0) k || ((b && bit around k) || false)) (sym (ne_eqb n (q + 1) ne))
      ];
    }

two_parts : (x h g a i j : Bool) → (x || ((h && a) || i)) || ((g && a) || j) ≡ x || (((h || g) && a) || (i || j))
two_parts true h g a i j = refl
two_parts false true g true i j = refl
two_parts false true true false i j = refl
two_parts false true false false i j = refl
two_parts false false true true true j = refl
two_parts false false true false true j = refl
two_parts false false false a true j = refl
two_parts false false g a false j = refl

one_tag : (x h a n i : Bool) → x || ((h && (a || n)) || i) ≡ x || ((h && a) || ((n && h) || i))
one_tag true h a n i = refl
one_tag false true true n i = refl
one_tag false true false true i = refl
one_tag false true false false i = refl
one_tag false false a true i = refl
one_tag false false a false i = refl

module _ {e f : Expr} {around : ℕ} {s₀ s₁ s₂ : List ℕ} (a : Spread e around s₀ s₁) (b : Spread f around s₁ s₂) where
  both : (q k : ℕ) → bit (get_or s₂ q 0) k ≡ bit (get_or s₀ q 0) k || (((has_test e (q + 1) || has_test f (q + 1)) && bit around k) || (inside e (k + 1) (q + 1) || inside f (k + 1) (q + 1)))
  both q k =
      b.sets q k ∙ ap (λ x. x || ((has_test f (q + 1) && bit around k) || inside f (k + 1) (q + 1))) (a.sets q k)
      ∙ two_parts (bit (get_or s₀ q 0) k) (has_test e (q + 1)) (has_test f (q + 1)) (bit around k) (inside e (k + 1) (q + 1)) (inside f (k + 1) (q + 1))

  pub spread_seq : Spread (seq e f) around s₀ s₂
  spread_seq = record { kept = b.kept ∙ a.kept; sets = both }

  pub spread_either : Spread (either e f) around s₀ s₂
  spread_either = record { kept = b.kept ∙ a.kept; sets = both }

module _ {e : Expr} {around : ℕ} {s₀ s₁ : List ℕ} (a : Spread e around s₀ s₁) where
  pub spread_star : Spread (star e) around s₀ s₁
  spread_star = record { kept = a.kept; sets = a.sets }

  pub spread_plus : Spread (plus e) around s₀ s₁
  spread_plus = record { kept = a.kept; sets = a.sets }

  pub spread_opt : Spread (opt e) around s₀ s₁
  spread_opt = record { kept = a.kept; sets = a.sets }

-- one tag more around an expression; j is one below its number, and x the set of it alone
pub spread_tag : {e : Expr} {around : ℕ} {s₀ s₁ : List ℕ} (n j x : ℕ) → n ≡ j + 1 → x ≡ 2 ^ j → Spread e (bit_or around x) s₀ s₁ → Spread (tag n e) around s₀ s₁
spread_tag {e = e} {around = around} {s₀ = s₀} n j x is one a =
    let alone : (k : ℕ) → bit x k ≡ eqb n (k + 1) = λ k. ap (λ y. bit y k) one ∙ bit_one j k ∙ same_test _ _ (λ h. eq-eqb n (k + 1) (omega (arith, eqb-true j k h))) (λ h. eq-eqb j k (omega (arith, eqb-true n (k + 1) h))) in
    record {
      kept = a.kept;
      sets = λ q k.
          a.sets q k
          ∙ ap (λ y. bit (get_or s₀ q 0) k || ((has_test e (q + 1) && y) || inside e (k + 1) (q + 1))) (bit_union around x k ∙ ap (λ y. bit around k || y) (alone k))
          ∙ one_tag (bit (get_or s₀ q 0) k) (has_test e (q + 1)) (bit around k) (eqb n (k + 1)) (inside e (k + 1) (q + 1));
    }

-- a test is inside no tag past 8
no_inside : (e : Expr) (t p : ℕ) → InRange e → 8 < t → inside e t p ≡ false
no_inside (test q) t p a h = refl
no_inside (seq e f) t p a h = ap (λ x. x || inside f t p) (no_inside e t p a.0 h) ∙ no_inside f t p a.1 h
no_inside (either e f) t p a h = ap (λ x. x || inside f t p) (no_inside e t p a.0 h) ∙ no_inside f t p a.1 h
no_inside (star e) t p a h = no_inside e t p a h
no_inside (plus e) t p a h = no_inside e t p a h
no_inside (opt e) t p a h = no_inside e t p a h
no_inside (tag n e) t p a h = ap (λ x. (x && has_test e p) || inside e t p) (ne_eqb n t (λ is. omega (arith, a.1))) ∙ no_inside e t p a.2 h

none_set : (q : ℕ) → ◌≡◌ {A = ℕ} (get_or (replicate 64 0) q 0) 0
none_set q = elim (cases_lt q 64) [
  | inl h ↦ get_or-replicate 64 q 0 0 h
  | inr h ↦ get_or_past (replicate 64 0) q 0 (omega (arith, length-replicate {A = ℕ} 64 0))
]

-- what is spread over nothing
pub spread_all : (e : Expr) (after : List ℕ) → InRange e → Spread e 0 (replicate 64 0) after → (q : ℕ) → get_or after q 0 ≡ tag_set e (q + 1)
spread_all e after few a q = same_bits (get_or after q 0) (tag_set e (q + 1)) (λ k.
    let nothing : (has_test e (q + 1) && bit 0 k) || inside e (k + 1) (q + 1) ≡ inside e (k + 1) (q + 1) = ap (λ x. (has_test e (q + 1) && x) || inside e (k + 1) (q + 1)) (bit_none k) ∙ ap (λ x. x || inside e (k + 1) (q + 1)) (and-false (has_test e (q + 1))) in
    let is : bit (get_or after q 0) k ≡ inside e (k + 1) (q + 1) = a.sets q k ∙ ap (λ x. bit x k || ((has_test e (q + 1) && bit 0 k) || inside e (k + 1) (q + 1))) (none_set q) ∙ ap (λ x. x || ((has_test e (q + 1) && bit 0 k) || inside e (k + 1) (q + 1))) (bit_none k) ∙ nothing in
    elim (cases_lt k 8) [
      | inl l ↦ is ∙ sym (tag_set_bit e (q + 1) (k + 1) (omega arith) (omega arith)) ∙ ap (bit (tag_set e (q + 1))) (omega arith)
      | inr l ↦ is ∙ no_inside e (k + 1) (q + 1) few (omega arith) ∙ sym (no_bit (tag_set e (q + 1)) 8 k (tag_set_below e (q + 1)) l)
    ])
