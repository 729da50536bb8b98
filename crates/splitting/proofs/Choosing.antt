-- The choice among some candidates, and one more that is higher in number than all of them.
use Rattle.std.proofs.Common.{◌≡◌, ℕ, ◌<◌, Bool, cond, ◌⊎◌, Ordering, Less, Equal, Greater, sym, refl, ap, ◌∙◌, subst, inl, inr}
use lib.Bits.{bit_and}
use Rattle.std.specs.Ordering.{ordering_reverse, is_le, is_gt}
use Rattle.automaton.specs.Bit.{In}
use Rattle.automaton.specs.PositionSets.{Lowest}
use Rattle.automaton.proofs.Bits.{in_and}
use Rattle.ranking.specs.Laws.{Near, Lawful}
use Rattle.ranking.proofs.Orders.{less_under, under_less}
use Rattle.splitting.specs.Choice.{Pick, Wins}
use Rattle.splitting.proofs.BitLoops.{Left, given, given_done, done_more, done_still, left_next}

module _ {M : Type 0} {start : M} {stepped : M → ℕ → M} {compared : M → M → Ordering} (law : Lawful start stepped compared) (m : ℕ → M)
    (Old New : ℕ → Type 0) (n r : ℕ) (k : Pick compared m Old r) (member : New n) (still : (p : ℕ) → Old p → New p) (now : (p : ℕ) → New p → (p ≡ n) ⊎ Old p)
    (lower : (p : ℕ) → Old p → p < n) (near : (p : ℕ) → New p → Near start stepped 160 (m p)) where
  on : Near start stepped 160 (m n)
  on = near n member

  or : Near start stepped 160 (m r)
  or = near r (still r k.candidate)

  risen : compared (m n) (m r) ≡ Greater → Pick compared m New n
  risen g = record { candidate = member; wins = λ p c. elim (now p c) [ inl e ↦ Wins.same e | inr o ↦ Wins.higher (low p o (k.wins p o)) ] }
    where
      less : compared (m r) (m n) ≡ Less
      less = law.swapped on or ∙ ap ordering_reverse g

      low : (p : ℕ) → Old p → Wins compared m r p → compared (m p) (m n) ≡ Less
      low p o (Wins.same e) = subst (λ q. compared (m q) (m n) ≡ Less) (sym e) less
      low p o (Wins.higher e) = less_under law (near p (still p o)) or on e (ap is_le less)
      low p o (Wins.earlier e _) = under_less law (near p (still p o)) or on (ap is_le e) less

  stays : Wins compared m r n → Pick compared m New r
  stays w = record {
    candidate = still r k.candidate;
    wins = λ p c. elim (now p c) [ inl e ↦ subst (λ q. Wins compared m r q) (sym e) w | inr o ↦ k.wins p o ];
  }

  -- the higher of the best so far and of n, by a test whether n is higher
  pub preferred : (b : Bool) → b ≡ is_gt (compared (m n) (m r)) → Pick compared m New (cond b n r)
  preferred b t = subst (λ b. Pick compared m New (cond b n r)) (sym t) (go (compared (m n) (m r)) refl)
    where
      go : (o : Ordering) → compared (m n) (m r) ≡ o → Pick compared m New (cond (is_gt (compared (m n) (m r))) n r)
      go Less e = subst (λ o. Pick compared m New (cond (is_gt o) n r)) (sym e) (stays (Wins.higher e))
      go Equal e = subst (λ o. Pick compared m New (cond (is_gt o) n r)) (sym e) (stays (Wins.earlier e (lower r k.candidate)))
      go Greater e = subst (λ o. Pick compared m New (cond (is_gt o) n r)) (sym e) (risen e)

-- a position of a set that is done
abbrev pub Done : ℕ → ℕ → ℕ → Type 0
Done among rest p = In among p × (In rest p → ⊥)

-- the choice among the positions of a set that are done
module _ {M : Type 0} {compared : M → M → Ordering} {m : ℕ → M} {among rest p left : ℕ} (l : Left among rest) (n : Lowest rest p left) where
  -- one turn more
  pub chosen : {start : M} {stepped : M → ℕ → M} → Lawful start stepped compared → ((q : ℕ) → In among q → Near start stepped 160 (m q)) → {r : ℕ} → Pick compared m (Done among rest) r
      → (b : Bool) → b ≡ is_gt (compared (m p) (m r)) → Pick compared m (Done among left) (cond b p r)
  chosen law near {r} k =
      preferred law m (Done among rest) (Done among left) p r k (given l n, given_done l n) (λ q d. (d.0, done_still l n q d.1))
      (λ q d. elim (done_more l n q d.0 d.1) [ inl e ↦ inl e | inr f ↦ inr (d.0, f) ])
      (λ q d. l.rising q p d.0 d.1 n.one) (λ q d. near q d.0)

-- the choice among the live positions of a set that are done, after one turn more
pub turned : {M : Type 0} {start : M} {stepped : M → ℕ → M} {compared : M → M → Ordering} {m : ℕ → M} {rest p left r : ℕ} → Lawful start stepped compared → (live set : ℕ)
    → ((q : ℕ) → In live q → Near start stepped 160 (m q)) → Left (bit_and live set) rest → Lowest rest p left → Pick compared m (Done (bit_and live set) rest) r
    → (b : Bool) → b ≡ is_gt (compared (m p) (m r)) → Left (bit_and live set) left × Pick compared m (Done (bit_and live set) left) (cond b p r)
turned law live set near l n k b t = (left_next l n, chosen l n law (λ q e. near q (in_and {x = live} {y = set} e).0) k b t)
