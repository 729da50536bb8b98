-- A list of positions with the newest first, and the same from the first symbol on.
use Rattle.std.proofs.Common.{◌≡◌, ℕ, zero, suc, ◌-◌, ◌<◌, min, Bool, true, ◌&&◌, ltb, List, [], ◌∷◌, reverse, length, get_or, Ordering, sym, refl, ap, ◌∙◌, inl, inr, arith, ltb-true}
use mathlib.Core.List.{reverse_aux}
use Rattle.std.proofs.lemmas.List.{length-reverse, get_or-reverse}
use Rattle.std.proofs.lemmas.Bool.{and_parts, lt-ltb}
use Rattle.automaton.specs.declared.machine.Automaton.{Automaton}
use Rattle.automaton.specs.Reads.{Path, Walk}
use Rattle.ranking.specs.Ranks.{rank_of}
use Rattle.splitting.specs.Steps.{rank_back}
use Rattle.splitting.specs.Trails.{Admitted, Trail, sets_along, Before, Over}
use Rattle.splitting.proofs.Lengths.{length_of}
use Rattle.splitting.proofs.Fronts.{may_stand, Front, Ends, Full, Earlier, Rules}

-- the positions of a list may stand at the places from k on
abbrev StandFrom : (ℕ → ℕ → Bool) → ℕ → List ℕ → Type 0
StandFrom may k [] = Unit {0}
StandFrom may k (q ∷ t) = (q < 64) × (may k q ≡ true) × StandFrom may (suc k) t

module _ {S : Type 0} (admits : ℕ → S → Bool) (codes : ℕ) where
  up : (s : S) (stretch : List S) (k : ℕ) (t : List ℕ) → StandFrom (may_stand admits codes stretch) k t → StandFrom (may_stand admits codes (s ∷ stretch)) (suc k) t
  up s stretch k [] x = tt
  up s stretch k (q ∷ t) x = (x.0, x.1, up s stretch (suc k) t x.2)

  down : (s : S) (stretch : List S) (k : ℕ) (t : List ℕ) → StandFrom (may_stand admits codes (s ∷ stretch)) (suc k) t → StandFrom (may_stand admits codes stretch) k t
  down s stretch k [] x = tt
  down s stretch k (q ∷ t) x = (x.0, x.1, down s stretch (suc k) t x.2)

  by_places : (stretch : List S) (t : List ℕ) → Admitted admits codes stretch t → StandFrom (may_stand admits codes stretch) 0 t
  by_places [] [] x = tt
  by_places [] (q ∷ t) x = absurd x
  by_places (s ∷ stretch) [] x = absurd x
  by_places (s ∷ stretch) (q ∷ t) x =
      let h : q < min 64 codes = omega (arith, x.0, x.1) in
      (x.0, ap (λ b. b && admits q s) (lt-ltb q (min 64 codes) h) ∙ x.2, up s stretch 0 t (by_places stretch t x.3))

  by_symbols : (stretch : List S) (t : List ℕ) → length t ≡ length stretch → StandFrom (may_stand admits codes stretch) 0 t → Admitted admits codes stretch t
  by_symbols [] [] e x = tt
  by_symbols [] (q ∷ t) e x = absurd (omega (arith, e))
  by_symbols (s ∷ stretch) [] e x = absurd (omega (arith, e))
  by_symbols (s ∷ stretch) (q ∷ t) e x =
      let b = and_parts (ltb q (min 64 codes)) (admits q s) x.1 in
      let h : q < min 64 codes = ltb-true q (min 64 codes) b.0 in
      (x.0, omega (arith, h), b.1, by_symbols stretch t (omega (arith, e)) (down s stretch 0 t x.2))

  -- what may stand at a place, by the symbol there
  pub stands : (stretch : List S) (i q : ℕ) (s : S) → i < length stretch → s ≡ get_or stretch i s → may_stand admits codes stretch i q ≡ (ltb q (min 64 codes) && admits q s)
  stands [] i q s h e = absurd (omega (arith, h))
  stands (x ∷ stretch) zero q s h e = ap (λ y. ltb q (min 64 codes) && admits q y) (sym e)
  stands (x ∷ stretch) (suc i) q s h e = stands stretch i q s (omega (arith, h)) e

module _ (a : Automaton) (may : ℕ → ℕ → Bool) where
  join : (p : ℕ) (w t : List ℕ) → Front a may (p ∷ w) → Path a p t → StandFrom may (suc (length w)) t → Walk a (reverse_aux w (p ∷ t)) × StandFrom may 0 (reverse_aux w (p ∷ t))
  join p [] t f x y = ((f.2, x), (f.0, f.1, y))
  join p (o ∷ w) t f x y = join o w (p ∷ t) f.3 (f.2, x) (f.0, f.1, y)

  part : (t : List ℕ) (p : ℕ) (w : List ℕ) → Front a may (p ∷ w) → Path a p t → StandFrom may (suc (length w)) t → Front a may (reverse_aux t (p ∷ w)) × Ends a (reverse_aux t (p ∷ w))
  part [] p w f x y = (f, x)
  part (q ∷ t) p w f x y = part t q (p ∷ w) (y.0, y.1, x.0, f) x.1 y.2

  walked : (w : List ℕ) → Front a may w → Ends a w → Walk a (reverse w) × StandFrom may 0 (reverse w)
  walked [] f e = (e, tt)
  walked (p ∷ w) f e = join p w [] f e tt

  fronted : (t : List ℕ) → Walk a t → StandFrom may 0 t → Front a may (reverse t) × Ends a (reverse t)
  fronted [] x y = (tt, x)
  fronted (p ∷ t) x y = part t p [] (y.0, y.1, x.0, tt) x.1 y.2

module _ {S : Type 0} (a : Automaton) (admits : ℕ → S → Bool) (codes : ℕ) (stretch : List S) where
  pub to_read : (w : List ℕ) → Full a (may_stand admits codes stretch) (length stretch) w → Trail a admits codes stretch (reverse w)
  to_read w f =
      let x = walked a (may_stand admits codes stretch) w f.front f.ends in
      record { walk = x.0; admitted = by_symbols admits codes stretch (reverse w) (length-reverse w ∙ f.whole) x.1 }

  pub from_read : (t : List ℕ) → Trail a admits codes stretch t → Full a (may_stand admits codes stretch) (length stretch) (reverse t)
  from_read t f =
      let x = fronted a (may_stand admits codes stretch) t f.walk (by_places admits codes stretch t f.admitted) in
      record { whole = length-reverse t ∙ length_of admits codes stretch t f.admitted; front = x.0; ends = x.1 }

module _ {M : Type 0} (start : M) (stepped : M → ℕ → M) (tags : List ℕ) where
  rank_aux : (w t : List ℕ) → rank_of start stepped (sets_along tags (reverse_aux w t)) ≡ rank_of (rank_back start stepped tags w) stepped (sets_along tags t)
  rank_aux [] t = refl
  rank_aux (q ∷ w) t = rank_aux w (q ∷ t)

  rank_read : (w : List ℕ) → rank_of start stepped (sets_along tags (reverse w)) ≡ rank_back start stepped tags w
  rank_read w = rank_aux w []

record First (w v : List ℕ) : Type 0 where
  at : ℕ
  within : at < length w
  lower : get_or w at 0 < get_or v at 0
  before : (j : ℕ) → j < at → get_or w j 0 ≡ get_or v j 0

later : (p o : ℕ) (w v : List ℕ) → p ≡ o → First w v → First (p ∷ w) (o ∷ v)
later p o w v e f = record { at = suc f.at; within = omega (arith, f.within); lower = f.lower; before = before }
  where
    before : (j : ℕ) → j < suc f.at → get_or (p ∷ w) j 0 ≡ get_or (o ∷ v) j 0
    before zero l = e
    before (suc j) l = f.before j (omega (arith, l))

first_difference_lem : (w v : List ℕ) → Earlier w v → First w v
first_difference_lem [] v x = absurd x
first_difference_lem (p ∷ w) [] x = absurd x
first_difference_lem (p ∷ w) (o ∷ v) (inl h) = record { at = 0; within = omega arith; lower = h; before = λ j l. absurd (omega (arith, l)) }
first_difference_lem (p ∷ w) (o ∷ v) (inr x) = later p o w v x.0 (first_difference_lem w v x.1)

before_read : (w v : List ℕ) → length w ≡ length v → Earlier w v → Before (reverse w) (reverse v)
before_read w v e x =
    let f = first_difference_lem w v x in
    let k = length w - 1 - f.at in
    let lw : k < length w = omega (arith, f.within) in
    let lv : k < length v = omega (arith, f.within, e) in
    let bw : length w - 1 - k ≡ f.at = omega (arith, f.within) in
    let bv : length v - 1 - k ≡ f.at = omega (arith, f.within, e) in
    let rw' : get_or (reverse w) k 0 ≡ get_or w f.at 0 = get_or-reverse w k 0 lw ∙ ap (λ n. get_or w n 0) bw in
    let rv' : get_or (reverse v) k 0 ≡ get_or v f.at 0 = get_or-reverse v k 0 lv ∙ ap (λ n. get_or v n 0) bv in
    record {
      place = k;
      within = omega (arith, lw, length-reverse w);
      lower = omega (arith, rw', rv', f.lower);
      after = λ j h l.
          let lj : j < length w = omega (arith, l, length-reverse w) in
          let lj' : j < length v = omega (arith, l, length-reverse w, e) in
          let s : length v - 1 - j ≡ length w - 1 - j = omega (arith, e) in
          get_or-reverse w j 0 lj ∙ f.before (length w - 1 - j) (omega (arith, h, lj, f.within)) ∙ ap (λ n. get_or v n 0) (sym s) ∙ sym (get_or-reverse v j 0 lj');
    }

module _ {M : Type 0} (start : M) (stepped : M → ℕ → M) (compared : M → M → Ordering) (tags : List ℕ) where
  ranks : (w v : List ℕ) → compared (rank_of start stepped (sets_along tags (reverse v))) (rank_of start stepped (sets_along tags (reverse w))) ≡ compared (rank_back start stepped tags v) (rank_back start stepped tags w)
  ranks w v =
      ap (λ m. compared m (rank_of start stepped (sets_along tags (reverse w)))) (rank_read start stepped tags v)
      ∙ ap (compared (rank_back start stepped tags v)) (rank_read start stepped tags w)

  pub over_read : (w v : List ℕ) → length w ≡ length v → Rules compared (rank_back start stepped tags) w v → Over (λ t. rank_of start stepped (sets_along tags t)) compared (reverse w) (reverse v)
  over_read w v e (Rules.same x) = Over.same (ap reverse x)
  over_read w v e (Rules.higher x) = Over.higher (ranks w v ∙ x)
  over_read w v e (Rules.earlier x y) = Over.earlier (ranks w v ∙ x) (before_read w v e y)
