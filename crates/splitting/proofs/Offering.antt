-- One position, offered to the positions of a set, one after another.
use Rattle.std.proofs.Common.{◌≡◌, ℕ, cond, ◌⊎◌, List, get_or, Ordering, sym, ap, ◌∙◌, subst, inl, inr}
use Rattle.std.specs.Ordering.{is_gt}
use Rattle.automaton.specs.Bit.{In}
use Rattle.automaton.specs.PositionSets.{Lowest}
use Rattle.splitting.specs.Steps.{Offered}
use Rattle.splitting.proofs.BitLoops.{Left, none_left, given, given_done, done_more}

-- what stands where the offers are made, and what stood before
pub record Offering {M : Type 0} (compared : M → M → Ordering) (m : ℕ → M) (p onto rest reached : ℕ) (before now : List ℕ) : Type 0 where
  pub others : (q : ℕ) → (In onto q → ⊥) → get_or now q 0 ≡ get_or before q 0
  pub waiting : (q : ℕ) → In rest q → get_or now q 0 ≡ get_or before q 0
  pub fresh : (q : ℕ) → In onto q → (In rest q → ⊥) → (In reached q → ⊥) → get_or now q 0 ≡ p
  pub contested : (q : ℕ) → In onto q → (In rest q → ⊥) → In reached q → get_or now q 0 ≡ cond (is_gt (compared (m p) (m (get_or before q 0)))) p (get_or before q 0)

-- one offer more, to the position t
module _ {M : Type 0} (compared : M → M → Ordering) (m : ℕ → M) (p onto reached : ℕ) (before now next : List ℕ) {rest t left : ℕ} (l : Left onto rest) (n : Lowest rest t left)
    (o : Offering compared m p onto rest reached before now) (elsewhere : (q : ℕ) → (q ≡ t → ⊥) → get_or next q 0 ≡ get_or now q 0)
    (told : ((In reached t → ⊥) × (get_or next t 0 ≡ p)) ⊎ (In reached t × (get_or next t 0 ≡ cond (is_gt (compared (m p) (m (get_or now t 0)))) p (get_or now t 0)))) where
  pub one_offer : Offering compared m p onto left reached before next
  one_offer = record { others = others; waiting = waiting; fresh = fresh; contested = contested }
    where
      others : (q : ℕ) → (In onto q → ⊥) → get_or next q 0 ≡ get_or before q 0
      others q f = elsewhere q (λ e. f (subst (In onto) (sym e) (given l n))) ∙ o.others q f

      waiting : (q : ℕ) → In left q → get_or next q 0 ≡ get_or before q 0
      waiting q e = elsewhere q (λ s. given_done l n (subst (In left) s e)) ∙ o.waiting q (n.others q e)

      apart : (q : ℕ) → (In rest q → ⊥) → q ≡ t → ⊥
      apart q d e = d (subst (In rest) (sym e) n.one)

      fresh_here : (In reached t → ⊥) → get_or next t 0 ≡ p
      fresh_here f = elim told [ inl x ↦ x.1 | inr x ↦ absurd (f x.0) ]

      fresh : (q : ℕ) → In onto q → (In left q → ⊥) → (In reached q → ⊥) → get_or next q 0 ≡ p
      fresh q e d f = elim (done_more l n q e d) [
        | inl s ↦ ap (λ k. get_or next k 0) s ∙ fresh_here (λ x. f (subst (In reached) (sym s) x))
        | inr d ↦ elsewhere q (apart q d) ∙ o.fresh q e d f
      ]

      contested_here : In reached t → get_or next t 0 ≡ cond (is_gt (compared (m p) (m (get_or before t 0)))) p (get_or before t 0)
      contested_here f = elim told [
        | inl x ↦ absurd (x.0 f)
        | inr x ↦ x.1 ∙ ap (λ r. cond (is_gt (compared (m p) (m r))) p r) (o.waiting t n.one)
      ]

      contested : (q : ℕ) → In onto q → (In left q → ⊥) → In reached q → get_or next q 0 ≡ cond (is_gt (compared (m p) (m (get_or before q 0)))) p (get_or before q 0)
      contested q e d f = elim (done_more l n q e d) [
        | inl s ↦ subst (λ k. get_or next k 0 ≡ cond (is_gt (compared (m p) (m (get_or before k 0)))) p (get_or before k 0)) (sym s) (contested_here (subst (In reached) s f))
        | inr d ↦ elsewhere q (apart q d) ∙ o.contested q e d f
      ]

-- all offers are made
pub all_offered : {M : Type 0} {compared : M → M → Ordering} {m : ℕ → M} {p onto rest reached : ℕ} {before now : List ℕ} → Offering compared m p onto rest reached before now → rest ≡ 0
    → Offered compared m p onto reached before now
all_offered o z = record { others = o.others; fresh = λ q e n. o.fresh q e (none_left z) n; contested = λ q e i. o.contested q e (none_left z) i }
