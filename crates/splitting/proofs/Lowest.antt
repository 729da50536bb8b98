-- The lowest measure of those that stand before the positions that are reached.
use Rattle.std.proofs.Common.{◌≡◌, ℕ, ◌-◌, ◌^◌, ◌<◌, Bool, true, false, cond, ◌⊎◌, List, get_or, Ordering, Less, Equal, Greater, sym, refl, ap, ◌∙◌, subst, inl, inr}
use lib.Bits.{bit_and, bit_or}
use Rattle.std.specs.Ordering.{ordering_reverse, is_le, is_gt}
use Rattle.automaton.specs.Bit.{In}
use Rattle.automaton.proofs.Bits.{in_and, and_in, in_or, in_not, not_in, asked, in_zero}
use Rattle.ranking.specs.Laws.{Near, Lawful}
use Rattle.ranking.proofs.Orders.{transitive_le}
use Rattle.splitting.specs.Steps.{Offered, LowestBefore}

not_higher : (o : Ordering) → false ≡ is_gt o → is_le o ≡ true
not_higher Less e = refl
not_higher Equal e = refl
not_higher Greater e = e

at_most : (o : Ordering) → is_le o ≡ true → is_gt o ≡ false
at_most Less e = refl
at_most Equal e = refl
at_most Greater e = sym e

lower : (o : Ordering) → true ≡ is_gt o → is_le (ordering_reverse o) ≡ true
lower Less e = sym e
lower Equal e = refl
lower Greater e = refl

itself : (o : Ordering) → o ≡ ordering_reverse o → is_le o ≡ true
itself Less e = refl
itself Equal e = refl
itself Greater e = ap is_le e

module _ {M : Type 0} {start : M} {stepped : M → ℕ → M} {compared : M → M → Ordering} (law : Lawful start stepped compared) (m : ℕ → M) (live : ℕ)
    (near : (q : ℕ) → In live q → Near start stepped 160 (m q)) (p onto reached : ℕ) (before after : List ℕ) (mine : In live p) where
  -- p, which ranks higher than the lowest so far, was offered to all
  module _ (low : ℕ) (l : LowestBefore compared m live reached before low) (h : true ≡ is_gt (compared (m p) (m low))) (o : Offered compared m p onto reached before after) where
    pub lowest_stays : LowestBefore compared m live (bit_or reached onto) after low
    lowest_stays = record { stands = l.stands; lowest = lowest }
      where
        below : is_le (compared (m low) (m p)) ≡ true
        below = ap is_le (law.swapped (near p mine) (near low l.stands)) ∙ lower (compared (m p) (m low)) h

        one_of : (b : Bool) (r : ℕ) → is_le (compared (m low) (m r)) ≡ true → is_le (compared (m low) (m (cond b p r))) ≡ true
        one_of true r e = below
        one_of false r e = e

        lowest : (q : ℕ) → In (bit_or reached onto) q → is_le (compared (m low) (m (get_or after q 0))) ≡ true
        lowest q e = elim (asked onto q) [
          | inl b ↦ elim (asked reached q) [
            | inl a ↦ subst (λ r. is_le (compared (m low) (m r)) ≡ true) (sym (o.contested q b a)) (one_of (is_gt (compared (m p) (m (get_or before q 0)))) (get_or before q 0) (l.lowest q a))
            | inr f ↦ subst (λ r. is_le (compared (m low) (m r)) ≡ true) (sym (o.fresh q b f)) below
          ]
          | inr f ↦ subst (λ r. is_le (compared (m low) (m r)) ≡ true) (sym (o.others q f)) (elim (in_or {x = reached} {y = onto} e) [ inl a ↦ l.lowest q a | inr b ↦ absurd (f b) ])
        ]

  -- p, which ranks no higher than the lowest so far, was offered to the positions that were not reached; so it was where none was
  module _ (small : onto < 2 ^ 64) (room : reached < 2 ^ 64) (low : ℕ) (lives : (q : ℕ) → In reached q → In live (get_or before q 0))
      (no_higher : (reached ≡ 0) ⊎ (LowestBefore compared m live reached before low × (false ≡ is_gt (compared (m p) (m low)))))
      (o : Offered compared m p (bit_and onto (2 ^ 64 - 1 - reached)) reached before after) where
    least : (q : ℕ) → In reached q → is_le (compared (m p) (m (get_or before q 0))) ≡ true
    least q a = elim no_higher [
      | inl z ↦ absurd (in_zero (subst (λ s. In s q) z a))
      | inr h ↦ transitive_le law (near p mine) (near low h.0.stands) (near (get_or before q 0) (lives q a)) (not_higher (compared (m p) (m low)) h.1) (h.0.lowest q a)
    ]

    untouched : (q : ℕ) → In reached q → In (bit_and onto (2 ^ 64 - 1 - reached)) q → ⊥
    untouched q a e = in_not room (in_and {x = onto} {y = 2 ^ 64 - 1 - reached} e).1 a

    pub offered_to_others : Offered compared m p onto reached before after
    offered_to_others = record {
      others = λ q f. o.others q (λ e. f (in_and {x = onto} {y = 2 ^ 64 - 1 - reached} e).0);
      fresh = λ q b f. o.fresh q (and_in {x = onto} {y = 2 ^ 64 - 1 - reached} b (not_in small room b f)) f;
      contested = λ q b a. o.others q (untouched q a) ∙ sym (ap (λ c. cond c p (get_or before q 0)) (at_most (compared (m p) (m (get_or before q 0))) (least q a)));
    }

    pub lowest_next : LowestBefore compared m live (bit_or reached onto) after p
    lowest_next = record { stands = mine; lowest = lowest }
      where
        lowest : (q : ℕ) → In (bit_or reached onto) q → is_le (compared (m p) (m (get_or after q 0))) ≡ true
        lowest q e = elim (asked reached q) [
          | inl a ↦ subst (λ r. is_le (compared (m p) (m r)) ≡ true) (sym (o.others q (untouched q a))) (least q a)
          | inr f ↦
              let b : In onto q = elim (in_or {x = reached} {y = onto} e) [ inl a ↦ absurd (f a) | inr b ↦ b ] in
              subst (λ r. is_le (compared (m p) (m r)) ≡ true) (sym (offered_to_others.fresh q b f)) (itself (compared (m p) (m p)) (law.swapped (near p mine) (near p mine)))
        ]
