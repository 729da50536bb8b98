-- What follows from the laws of a ranking.
use Rattle.std.proofs.Common.{◌≡◌, ℕ, true, ◌⊎◌, Ordering, Less, Equal, Greater, sym, refl, ap, ◌∙◌, subst, inl, inr, true≢false}
use Rattle.std.specs.Ordering.{ordering_reverse, is_le, is_ge}
use Rattle.ranking.specs.Laws.{Near, Lawful}

either : (o : Ordering) → (is_ge o ≡ true) ⊎ (is_ge (ordering_reverse o) ≡ true)
either Less = inr refl
either Equal = inl refl
either Greater = inl refl

ge_reversed : (o : Ordering) → is_ge (ordering_reverse o) ≡ is_le o
ge_reversed Less = refl
ge_reversed Equal = refl
ge_reversed Greater = refl

module _ {M : Type 0} {start : M} {stepped : M → ℕ → M} {compared : M → M → Ordering} (law : Lawful start stepped compared) where
  -- of any two measures one is higher than or equal to the other
  pub total : {a b : M} → Near start stepped 160 a → Near start stepped 160 b → (is_ge (compared a b) ≡ true) ⊎ (is_ge (compared b a) ≡ true)
  total {a} {b} oa ob = subst (λ o. (is_ge (compared a b) ≡ true) ⊎ (is_ge o ≡ true)) (sym (law.swapped oa ob)) (either (compared a b))

  -- lower or equal is transitive too
  pub transitive_le : {a b c : M} → Near start stepped 160 a → Near start stepped 160 b → Near start stepped 160 c
      → is_le (compared a b) ≡ true → is_le (compared b c) ≡ true → is_le (compared a c) ≡ true
  transitive_le {a} {b} {c} oa ob oc x y =
      sym (ge_reversed (compared a c)) ∙ sym (ap is_ge (law.swapped oa oc))
      ∙ law.transitive oc ob oa (ap is_ge (law.swapped ob oc) ∙ ge_reversed (compared b c) ∙ y) (ap is_ge (law.swapped oa ob) ∙ ge_reversed (compared a b) ∙ x)

  at_most : {a b : M} {o : Ordering} → compared a b ≡ o → is_le o ≡ true → is_le (compared a b) ≡ true
  at_most e h = ap is_le e ∙ h

  -- two that are lower or equal, one after the other, and not equal in all
  under : {a b c : M} → Near start stepped 160 a → Near start stepped 160 b → Near start stepped 160 c
      → is_le (compared a b) ≡ true → is_le (compared b c) ≡ true → (compared a c ≡ Equal → ⊥) → compared a c ≡ Less
  under {a} {b} {c} oa ob oc x y ne = go (compared a c) refl (transitive_le oa ob oc x y)
    where
      go : (o : Ordering) → compared a c ≡ o → is_le (compared a c) ≡ true → compared a c ≡ Less
      go Less e h = e
      go Equal e h = absurd (ne e)
      go Greater e h = absurd (true≢false (sym h ∙ ap is_le e))

  no_back : {a b : M} → Near start stepped 160 a → Near start stepped 160 b → compared a b ≡ Less → is_le (compared b a) ≡ true → ⊥
  no_back oa ob e h = true≢false (sym h ∙ ap is_le (law.swapped oa ob ∙ ap ordering_reverse e))

  pub less_under : {a b c : M} → Near start stepped 160 a → Near start stepped 160 b → Near start stepped 160 c
      → compared a b ≡ Less → is_le (compared b c) ≡ true → compared a c ≡ Less
  less_under oa ob oc x y =
      under oa ob oc (at_most x refl) y
      (λ e. no_back oa ob x (transitive_le ob oc oa y (at_most (law.swapped oa oc ∙ ap ordering_reverse e) refl)))

  pub under_less : {a b c : M} → Near start stepped 160 a → Near start stepped 160 b → Near start stepped 160 c
      → is_le (compared a b) ≡ true → compared b c ≡ Less → compared a c ≡ Less
  under_less oa ob oc x y =
      under oa ob oc x (at_most y refl)
      (λ e. no_back ob oc y (transitive_le oc oa ob (at_most (law.swapped oa oc ∙ ap ordering_reverse e) refl) x))

  pub equals : {a b c : M} → Near start stepped 160 a → Near start stepped 160 b → Near start stepped 160 c
      → compared a b ≡ Equal → compared b c ≡ Equal → compared a c ≡ Equal
  equals {a} {b} {c} oa ob oc x y = go (compared a c) refl (transitive_le oa ob oc (at_most x refl) (at_most y refl))
    where
      go : (o : Ordering) → compared a c ≡ o → is_le (compared a c) ≡ true → compared a c ≡ Equal
      go Less e h =
          absurd (no_back oa oc e (transitive_le oc ob oa (at_most (law.swapped ob oc ∙ ap ordering_reverse y) refl) (at_most (law.swapped oa ob ∙ ap ordering_reverse x) refl)))
      go Equal e h = e
      go Greater e h = absurd (true≢false (sym h ∙ ap is_le e))
