-- How far the measures of fronts are from the start.
use Rattle.std.proofs.Common.{◌≡◌, ℕ, zero, suc, ◌+◌, ◌-◌, ◌<◌, ◌≤◌, List, [], ◌∷◌, length, get_or, sym, refl, ap, subst, arith}
use Rattle.automaton.specs.Bit.{In}
use Rattle.ranking.specs.Laws.{Near, at_start, one_more}
use Rattle.splitting.specs.Steps.{back_from, rank_back}

pub back_length : (back : List (List ℕ)) (n q : ℕ) → length (back_from back n q) ≡ n
back_length back zero q = refl
back_length back (suc n) q = ap suc (back_length back n (get_or (get_or back n []) q 0))

module _ {M : Type 0} (start : M) (stepped : M → ℕ → M) (tags : List ℕ) (sets : (k : ℕ) → get_or tags k 0 < 256) where
  -- the measure of a list is as many steps from the start as the list is long
  pub rank_near : (n : ℕ) (w : List ℕ) → length w ≤ n → Near start stepped n (rank_back start stepped tags w)
  rank_near n [] h = at_start
  rank_near n (q ∷ w) h =
      let e : n - 1 + 1 ≡ n = omega arith in
      let l : length w ≤ n - 1 = omega arith in
      subst (λ i. Near start stepped i (rank_back start stepped tags (q ∷ w))) e (one_more (rank_near (n - 1) w l) (get_or tags q 0) (sets q))

  pub front_near : (back : List (List ℕ)) (symbols n q : ℕ) (m : M) → symbols ≤ n → m ≡ rank_back start stepped tags (back_from back symbols q) → Near start stepped n m
  front_near back symbols n q m h e = subst (λ x. Near start stepped n x) (sym e) (rank_near n (back_from back symbols q) (omega (arith, back_length back symbols q)))

  -- what a sweep compares
  pub live_near : (back : List (List ℕ)) (symbols live : ℕ) (measures : List M) → symbols ≤ 160
      → ((q : ℕ) → In live q → get_or measures q start ≡ rank_back start stepped tags (back_from back symbols q))
      → (q : ℕ) → In live q → Near start stepped 160 (get_or measures q start)
  live_near back symbols live measures h e q i = front_near back symbols 160 q (get_or measures q start) h (e q i)
