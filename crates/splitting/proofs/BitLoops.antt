-- A loop over the positions of a set, from the lowest up: `whole` is the set, and `rest` what is left of it.
use Rattle.std.proofs.Common.{◌≡◌, ℕ, ◌<◌, ◌⊎◌, sym, subst, inl, inr, arith}
use Rattle.automaton.specs.Bit.{In}
use Rattle.automaton.specs.PositionSets.{Lowest}
use Rattle.automaton.proofs.Bits.{asked, in_zero}

-- what is left is part of the set, and what is done is lower
pub record Left (whole rest : ℕ) : Type 0 where
  pub part : (p : ℕ) → In rest p → In whole p
  pub rising : (p r : ℕ) → In whole p → (In rest p → ⊥) → In rest r → p < r

pub all_left : {whole rest : ℕ} → rest ≡ whole → Left whole rest
all_left e = record { part = λ p i. subst (λ s. In s p) e i; rising = λ p r i f _. absurd (f (subst (λ s. In s p) (sym e) i)) }

pub none_left : {rest p : ℕ} → rest ≡ 0 → In rest p → ⊥
none_left {p = p} z i = in_zero (subst (λ s. In s p) z i)

-- one turn more, which gives p and leaves `after`
module _ {whole rest p after : ℕ} (l : Left whole rest) (n : Lowest rest p after) where
  pub given : In whole p
  given = l.part p n.one

  pub given_done : In after p → ⊥
  given_done e = let h = n.above p e in omega arith

  -- what is done now: p, or what was done before
  pub done_more : (q : ℕ) → In whole q → (In after q → ⊥) → (q ≡ p) ⊎ (In rest q → ⊥)
  done_more q e f = elim (asked rest q) [
    | inl r ↦ elim (n.each q r) [ inl s ↦ inl s | inr t ↦ absurd (f t) ]
    | inr d ↦ inr d
  ]

  -- what was done before
  pub done_still : (q : ℕ) → (In rest q → ⊥) → In after q → ⊥
  done_still q f e = f (n.others q e)

  pub left_next : Left whole after
  left_next = record {
    part = λ q e. l.part q (n.others q e);
    rising = λ q r e f g. elim (done_more q e f) [
      | inl s ↦ (let h = n.above r g in omega arith)
      | inr d ↦ l.rising q r e d (n.others r g)
    ];
  }
