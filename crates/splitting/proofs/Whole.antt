-- The choice at the end of the stretch, and what is answered by it.
use Rattle.std.proofs.Common.{◌≡◌, ℕ, ◌+◌, ◌<◌, ◌≤◌, min, Bool, true, false, true≢false, ltb, List, [], ◌++◌, reverse, length, get_or, take, drop, Ordering, sym, refl, ap, ◌∙◌, subst, arith, ltb-true}
use mathlib.Core.List.{reverse-reverse}
use lib.Bits.{bit_and}
use Rattle.std.proofs.lemmas.List.{length-take-le, length-map, length-reverse, nil_from_length}
use Rattle.std.proofs.Math.Seq.{take-append_seam}
use Rattle.std.proofs.lemmas.Slice.{drop-append-drop}
use Rattle.std.proofs.lemmas.Bool.{and_parts}
use Rattle.asking.specs.RowTables.{RowOf}
use Rattle.automaton.specs.declared.machine.Automaton.{Automaton}
use Rattle.automaton.specs.Bit.{In}
use Rattle.automaton.proofs.BitTests.{bit_in, in_bit}
use Rattle.ranking.specs.Laws.{Lawful}
use Rattle.ranking.specs.Ranks.{rank_of}
use Rattle.splitting.specs.Choice.{Pick}
use Rattle.splitting.specs.Steps.{back_from, rank_back}
use Rattle.automaton.specs.Reads.{tests_of}
use Rattle.splitting.specs.Trails.{Trail, sets_along, Over, Written}
use Rattle.splitting.proofs.Fronts.{may_stand, Ends, Full, Rules, same, Cells}
use Rattle.splitting.proofs.Nearness.{back_length}
use Rattle.splitting.proofs.Optimal.{best_full, no_full}
use Rattle.splitting.proofs.Reading.{stands, to_read, from_read, over_read}

-- ---- the row of a symbol has the positions that may stand there
module _ {S : Type 0} (admits : ℕ → S → Bool) (codes : ℕ) (stretch : List S) (i row : ℕ) (s : S) (h : i < length stretch) (e : s ≡ get_or stretch i s)
    (r : RowOf (λ q. admits q s) (min 64 codes) row) where
  pub row_may : (q : ℕ) → In row q → (q < 64) × (may_stand admits codes stretch i q ≡ true)
  row_may q x =
      let t = sym (r q) ∙ in_bit x in
      let l : q < min 64 codes = ltb-true q (min 64 codes) (and_parts (ltb q (min 64 codes)) (admits q s) t).0 in
      (omega (arith, l), stands admits codes stretch i q s h e ∙ t)

  pub may_row : (q : ℕ) → may_stand admits codes stretch i q ≡ true → In row q
  may_row q x = bit_in {x = row} {k = q} (r q ∙ sym (stands admits codes stretch i q s h e) ∙ x)

-- ---- the answers
module _ {S : Type 0} {a : Automaton} {admits : ℕ → S → Bool} {codes : ℕ} {stretch : List S} where
  none_full : ((w : List ℕ) → Full a (may_stand admits codes stretch) (length stretch) w → ⊥) → (t : List ℕ) → Trail a admits codes stretch t → ⊥
  none_full none t x = none (reverse t) (from_read a admits codes stretch t x)

  pub empty_none : length stretch ≡ 0 → a.nullable ≡ false → (t : List ℕ) → Trail a admits codes stretch t → ⊥
  empty_none e n = none_full (λ w f. true≢false (sym (subst (Ends a) (nil_from_length w (f.whole ∙ e)) f.ends) ∙ n))

  module _ {M : Type 0} {start : M} {stepped : M → ℕ → M} {compared : M → M → Ordering} {tags : List ℕ} where
    written : (was w is : List ℕ) → Full a (may_stand admits codes stretch) (length stretch) w
        → ((v : List ℕ) → Full a (may_stand admits codes stretch) (length stretch) v → Rules compared (rank_back start stepped tags) w v)
        → take (length stretch) is ≡ tests_of (reverse w) → drop (length stretch) is ≡ drop (length stretch) was
        → Written start stepped compared a admits codes tags stretch was is
    written was w is full best front rest = record {
      positions = reverse w;
      best = record {
        trail = to_read a admits codes stretch w full;
        over = λ u x.
            let f = from_read a admits codes stretch u x in
            subst (λ l. Over (λ t. rank_of start stepped (sets_along tags t)) compared (reverse w) l) (reverse-reverse u) (over_read start stepped compared tags w (reverse u) (full.whole ∙ sym f.whole) (best (reverse u) f));
      };
      front = front;
      rest = rest;
    }

    -- no symbols
    pub empty_best : (was : List ℕ) → length stretch ≡ 0 → a.nullable ≡ true → Written start stepped compared a admits codes tags stretch was was
    empty_best was e n = written was [] was (record { whole = sym e; front = tt; ends = n }) (λ v t. same (nil_from_length v (t.whole ∙ e))) (ap (λ k. take k was) e) refl

    -- the choice at the end of the stretch
    module _ (law : Lawful start stepped compared) (sets : (k : ℕ) → get_or tags k 0 < 256) (some : length stretch ≡ 0 → ⊥) {live : ℕ} {last : List M} {back : List (List ℕ)}
        (cells : Cells start stepped compared a tags (may_stand admits codes stretch) (length stretch) live last back) where
      pub missing : ((q : ℕ) → In live q → In a.last q → ⊥) → (t : List ℕ) → Trail a admits codes stretch t → ⊥
      missing none = none_full (no_full law tags sets a (may_stand admits codes stretch) (length stretch) live last back (omega arith) cells none)

      pub found : (q : ℕ) → Pick compared (λ p. get_or last p start) (In (bit_and live a.last)) q
          → (was front : List ℕ) → length stretch ≤ 160 → length stretch ≤ length was → front ≡ tests_of (reverse (back_from back (length (take (length stretch) was)) q))
          → Written start stepped compared a admits codes tags stretch was (front ++ drop (length stretch) was)
      found q pick was front short room e =
          let k = best_full law tags sets a (may_stand admits codes stretch) (length stretch) live last back (omega arith) short cells q pick in
          let n : length (take (length stretch) was) ≡ length stretch = length-take-le (length stretch) was room in
          let e' : front ≡ tests_of (reverse (back_from back (length stretch) q)) = e ∙ ap (λ m. tests_of (reverse (back_from back m q))) n in
          let l : length front ≡ length stretch =
          ap length e' ∙ length-map (reverse (back_from back (length stretch) q)) (λ p. p + 1) ∙ length-reverse (back_from back (length stretch) q) ∙ back_length back (length stretch) q in
          written was (back_from back (length stretch) q) (front ++ drop (length stretch) was) k.0 k.1
          (ap (λ n. take n (front ++ drop (length stretch) was)) (sym l) ∙ take-append_seam front (drop (length stretch) was) ∙ e') (drop-append-drop (length stretch) was front (length stretch) (omega arith) l)
