-- The live positions, one after another, offered to those that may follow them.
use Rattle.std.proofs.Common.{◌≡◌, ℕ, ◌<◌, Bool, true, false, cond, ◌⊎◌, List, get_or, Ordering, sym, refl, subst, inl, inr}
use lib.Bits.{bit_and, bit_or}
use Rattle.std.specs.Ordering.{is_gt}
use Rattle.automaton.specs.Bit.{In}
use Rattle.automaton.specs.PositionSets.{Lowest}
use Rattle.automaton.proofs.Bits.{in_and, and_in, in_or, or_in, asked, in_zero}
use Rattle.ranking.specs.Laws.{Near, Lawful}
use Rattle.splitting.specs.Choice.{Pick, Wins}
use Rattle.splitting.specs.Steps.{Offered, Preceded}
use Rattle.splitting.proofs.BitLoops.{Left, none_left, given, given_done, done_more, done_still}
use Rattle.splitting.proofs.Choosing.{preferred}

-- a live position that is done, and may come before q
abbrev pub Tried : List ℕ → ℕ → ℕ → ℕ → ℕ → Type 0
Tried follow live rest q p = In live p × (In rest p → ⊥) × In (get_or follow p 0) q

-- what was reached from the live positions that are done
pub record SoFar {M : Type 0} (compared : M → M → Ordering) (m : ℕ → M) (follow : List ℕ) (live rest row positions : ℕ) (previous : List ℕ) : Type 0 where
  pub picked : (q : ℕ) → In positions q → Pick compared m (Tried follow live rest q) (get_or previous q 0)
  pub admitted : (q : ℕ) → In positions q → In row q
  pub complete : (p q : ℕ) → In live p → (In rest p → ⊥) → In (get_or follow p 0) q → In row q → In positions q
  pub low : (q : ℕ) → get_or previous q 0 < 64

module _ {M : Type 0} (compared : M → M → Ordering) (m : ℕ → M) (follow : List ℕ) (live row : ℕ) where
  pub none_done : (rest : ℕ) (previous : List ℕ) → rest ≡ live → ((q : ℕ) → get_or previous q 0 < 64) → SoFar compared m follow live rest row 0 previous
  none_done rest previous s low = record {
    picked = λ q e. absurd (in_zero e);
    admitted = λ q e. absurd (in_zero e);
    complete = λ p q e n f g. absurd (n (subst (λ x. In x p) (sym s) e));
    low = low;
  }

  -- one more live position, t, is offered
  module _ {start : M} {stepped : M → ℕ → M} (law : Lawful start stepped compared) (near : (p : ℕ) → In live p → Near start stepped 160 (m p))
      {rest t left : ℕ} (positions : ℕ) (previous after : List ℕ) (l : Left live rest) (n : Lowest rest t left) (s : SoFar compared m follow live rest row positions previous)
      (o : Offered compared m t (bit_and (get_or follow t 0) row) positions previous after) where
    pub offered : SoFar compared m follow live left row (bit_or positions (bit_and (get_or follow t 0) row)) after
    offered = record { picked = picked; admitted = admitted; complete = complete; low = low }
      where
        of_onto : (q : ℕ) → In (bit_and (get_or follow t 0) row) q → In (get_or follow t 0) q × In row q
        of_onto q b = in_and {x = get_or follow t 0} {y = row} b

        one_of : (b : Bool) (p r : ℕ) → p < 64 → r < 64 → cond b p r < 64
        one_of true p r h g = h
        one_of false p r h g = g

        low : (q : ℕ) → get_or after q 0 < 64
        low q = elim (asked (bit_and (get_or follow t 0) row) q) [
          | inl b ↦ elim (asked positions q) [
            | inl a ↦ subst (λ r. r < 64) (sym (o.contested q b a)) (one_of (is_gt (compared (m t) (m (get_or previous q 0)))) t (get_or previous q 0) n.below (s.low q))
            | inr f ↦ subst (λ r. r < 64) (sym (o.fresh q b f)) n.below
          ]
          | inr f ↦ subst (λ r. r < 64) (sym (o.others q f)) (s.low q)
        ]

        -- a candidate that is done now
        now : (p q : ℕ) → Tried follow live left q p → (p ≡ t) ⊎ Tried follow live rest q p
        now p q c = elim (done_more l n p c.0 c.1) [ inl e ↦ inl e | inr d ↦ inr (c.0, d, c.2) ]

        mine : (q : ℕ) → In (get_or follow t 0) q → Tried follow live left q t
        mine q e = (given l n, given_done l n, e)

        still : (p q : ℕ) → Tried follow live rest q p → Tried follow live left q p
        still p q c = (c.0, done_still l n p c.1, c.2)

        admitted : (q : ℕ) → In (bit_or positions (bit_and (get_or follow t 0) row)) q → In row q
        admitted q e = elim (in_or {x = positions} {y = bit_and (get_or follow t 0) row} e) [ inl a ↦ s.admitted q a | inr b ↦ (of_onto q b).1 ]

        complete : (p q : ℕ) → In live p → (In left p → ⊥) → In (get_or follow p 0) q → In row q → In (bit_or positions (bit_and (get_or follow t 0) row)) q
        complete p q e d f g = or_in {x = positions} {y = bit_and (get_or follow t 0) row} (elim (done_more l n p e d) [
          | inl i ↦ inr (and_in {x = get_or follow t 0} {y = row} (subst (λ k. In (get_or follow k 0) q) i f) g)
          | inr d ↦ inl (s.complete p q e d f g)
        ])

        -- a position that it may not follow
        kept : (q : ℕ) → In positions q → (In (bit_and (get_or follow t 0) row) q → ⊥) → Pick compared m (Tried follow live left q) (get_or after q 0)
        kept q a f =
            let k = s.picked q a in
            subst (Pick compared m (Tried follow live left q)) (sym (o.others q f))
            (record {
              candidate = still (get_or previous q 0) q k.candidate;
              wins = λ p c. elim (now p q c) [
                | inl e ↦ absurd (f (and_in {x = get_or follow t 0} {y = row} (subst (λ i. In (get_or follow i 0) q) e c.2) (s.admitted q a)))
                | inr d ↦ k.wins p d
              ];
            })

        -- a position that was not reached
        first : (q : ℕ) → In (bit_and (get_or follow t 0) row) q → (In positions q → ⊥) → Pick compared m (Tried follow live left q) (get_or after q 0)
        first q b f =
            subst (Pick compared m (Tried follow live left q)) (sym (o.fresh q b f))
            (record {
              candidate = mine q (of_onto q b).0;
              wins = λ p c. elim (now p q c) [ inl e ↦ Wins.same e | inr d ↦ absurd (f (s.complete p q d.0 d.1 d.2 (of_onto q b).1)) ];
            })

        -- a position that was reached
        better : (q : ℕ) → In (bit_and (get_or follow t 0) row) q → In positions q → Pick compared m (Tried follow live left q) (get_or after q 0)
        better q b a =
            subst (Pick compared m (Tried follow live left q)) (sym (o.contested q b a))
            (preferred law m (Tried follow live rest q) (Tried follow live left q) t (get_or previous q 0) (s.picked q a) (mine q (of_onto q b).0) (λ p. still p q) (λ p. now p q)
            (λ p c. l.rising p t c.0 c.1 n.one) (λ p c. near p c.0) (is_gt (compared (m t) (m (get_or previous q 0)))) refl)

        picked : (q : ℕ) → In (bit_or positions (bit_and (get_or follow t 0) row)) q → Pick compared m (Tried follow live left q) (get_or after q 0)
        picked q e = elim (asked (bit_and (get_or follow t 0) row) q) [
          | inl b ↦ elim (asked positions q) [ inl a ↦ better q b a | inr f ↦ first q b f ]
          | inr f ↦ elim (in_or {x = positions} {y = bit_and (get_or follow t 0) row} e) [ inl a ↦ kept q a f | inr b ↦ absurd (f b) ]
        ]

-- all live positions are offered
pub all_tried : {M : Type 0} {compared : M → M → Ordering} {m : ℕ → M} {follow : List ℕ} {live rest row positions : ℕ} {previous : List ℕ}
    → SoFar compared m follow live rest row positions previous → rest ≡ 0 → Preceded compared m follow live row positions previous
all_tried s z = record {
  picked = λ q e.
      let k = s.picked q e in
      record { candidate = (k.candidate.0, k.candidate.2); wins = λ p c. k.wins p (c.0, none_left z, c.1) };
  admitted = s.admitted;
  complete = λ p q e. s.complete p q e (none_left z);
  low = s.low;
}
