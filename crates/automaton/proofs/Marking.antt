-- Marking the symbols from the last to the first.
use Rattle.std.proofs.Common.{◌≡◌, ℕ, ◌+◌, ◌-◌, ◌<◌, ◌≤◌, ◌⊎◌, Option, Some, None, IfSome, List, length, get_or, take, drop, set, sum, sym, ap, ◌∙◌, subst, inl, inr, arith, length-set, length-take-le, get_or-set_other, get_or-set_same, drop-set-lt}
use lib.Seq.{take-set-lt}
use Rattle.std.proofs.lemmas.List.Sums.{sum_by-drop_more}
use Rattle.std.proofs.lemmas.Bool.{cases_lt}
use Rattle.automaton.specs.declared.machine.Automaton.{Automaton}
use Rattle.automaton.specs.Reads.{Reads}
use Rattle.automaton.specs.Stretches.{Covered, MarkedRight}
use Rattle.automaton.specs.Tracks.{Ends, Earliest}
use Rattle.automaton.proofs.Ends.{reads, ends, inside}

-- the marks from i on, after one is written at i
sum_set : (xs : List ℕ) (i v n : ℕ) → i < n → n ≤ length xs → sum (drop i (take n (set xs i v))) ≡ v + sum (drop (i + 1) (take n xs))
sum_set xs i v n h k =
    let long : i < length (take n xs) = omega (arith, length-take-le n xs k) in
    let long' : i < length (set (take n xs) i v) = omega (arith, length-set (take n xs) i v) in
    ap (λ l. sum (drop i l)) (take-set-lt n xs i v h) ∙ sum_by-drop_more (λ x. x) (set (take n xs) i v) i 0 long'
    ∙ ap (λ x. x + sum (drop (i + 1) (set (take n xs) i v))) (get_or-set_same (take n xs) i v 0 long)
    ∙ ap (λ l. v + sum l) (drop-set-lt (i + 1) (take n xs) i v (omega arith))

-- the symbols from i on are marked; low is the least start of a stretch that reads and ends after one of them
pub record Marking (a : Automaton) (rows : List ℕ) (least : List (Option ℕ)) (before after : List ℕ) (low count i : ℕ) : Type 0 where
  pub lowest : (j : ℕ) → i ≤ j → j < length rows → IfSome (get_or least j None) (λ e. low ≤ e)
  pub from : (low ≡ length rows) ⊎ ((j : ℕ) × (i ≤ j) × (j < length rows) × (get_or least j None ≡ Some low))
  pub marks : (j : ℕ) → i ≤ j → j < length rows → MarkedRight (Reads a rows) j (get_or after j 0)
  pub rest : (j : ℕ) → length rows ≤ j → get_or after j 0 ≡ get_or before j 0
  pub counted : count ≡ sum (drop i (take (length rows) after))
  pub few : count + i ≤ length rows
  pub room : length rows ≤ length before
  pub kept : length after ≡ length before

module _ (a : Automaton) (rows : List ℕ) (least : List (Option ℕ)) (before after : List ℕ) (low count i : ℕ) (m : Marking a rows least before after low count (i + 1))
    (hi : i < length rows) (ls : (j : ℕ) → j < length rows → Earliest a rows (j + 1) (get_or least j None))
    (less : ℕ) (p : less ≤ low) (q : IfSome (get_or least i None) (λ e. less ≤ e)) (which : (less ≡ low) ⊎ (get_or least i None ≡ Some less)) where
  lower : (o : Option ℕ) → IfSome o (λ e. low ≤ e) → IfSome o (λ e. less ≤ e)
  lower None h = h
  lower (Some e) h = omega (arith, p, h)

  lows : (j : ℕ) → i ≤ j → j < length rows → IfSome (get_or least j None) (λ e. less ≤ e)
  lows j h k = elim (cases_lt i j) [
    | inl l ↦ lower (get_or least j None) (m.lowest j (omega arith) k)
    | inr l ↦ (let s : i ≡ j = omega arith in subst (λ n. IfSome (get_or least n None) (λ e. less ≤ e)) s q)
  ]

  froms : (less ≡ length rows) ⊎ ((j : ℕ) × (i ≤ j) × (j < length rows) × (get_or least j None ≡ Some less))
  froms = elim which [
    | inl e ↦ elim m.from [ inl z ↦ inl (e ∙ z) | inr f ↦ inr (f.0, omega (arith, f.1), f.2, f.3 ∙ ap Some (sym e)) ]
    | inr e ↦ inr (i, omega arith, hi, e)
  ]

  pub covered : less ≤ i → Covered (Reads a rows) i
  covered h = elim froms [
    | inl z ↦ absurd (omega arith)
    | inr f ↦
        (let e = subst (Earliest a rows (f.0 + 1)) f.3 (ls f.0 f.2) in
        record { left = less; right = f.0 + 1; from = h; to = omega (arith, f.1); reads = reads a rows _ _ e.reads })
  ]

  pub bare : i < less → Covered (Reads a rows) i → ⊥
  bare h c =
      let l = c.left in
      let r = c.right in
      let w = ends a rows l r c.reads in
      let n = inside a rows l r w in
      let s : r ≡ (r - 1) + 1 = omega (arith, c.from, c.to) in
      none_lower l (get_or least (r - 1) None) (ls (r - 1) (omega (arith, c.to))) (lows (r - 1) (omega (arith, c.to)) (omega (arith, c.to))) (omega (arith, c.from)) (omega (arith, c.from, c.to)) (subst (λ x. Ends a rows l x) s w)
    where
      none_lower : (l : ℕ) (o : Option ℕ) → Earliest a rows ((c.right - 1) + 1) o → IfSome o (λ e. less ≤ e) → l < less → l < (c.right - 1) + 1 → Ends a rows l ((c.right - 1) + 1) → ⊥
      none_lower l None n g lt lr w = n l lr w
      none_lower l (Some e) f g lt lr w = omega (arith, f.first l lr w)

  pub put : (v more : ℕ) → MarkedRight (Reads a rows) i v → more ≡ v + count → more + i ≤ length rows → Marking a rows least before (set after i v) less more i
  put v more k e f = record {
    lowest = lows;
    from = froms;
    marks = λ j h l. elim (cases_lt i j) [
      | inl g ↦ subst (MarkedRight (Reads a rows) j) (sym (get_or-set_other after i j v 0 (λ e. omega arith))) (m.marks j (omega arith) l)
      | inr g ↦ (let s : i ≡ j = omega arith in subst (λ n. MarkedRight (Reads a rows) n (get_or (set after i v) n 0)) s (subst (MarkedRight (Reads a rows) i) (sym (get_or-set_same after i v 0 (omega (arith, m.room, m.kept)))) k))
    ];
    rest = λ j h. get_or-set_other after i j v 0 (λ e. omega arith) ∙ m.rest j h;
    counted = e ∙ ap (λ n. v + n) m.counted ∙ sym (sum_set after i v (length rows) hi (omega (arith, m.room, m.kept)));
    few = f;
    room = m.room;
    kept = length-set after i v ∙ m.kept;
  }
