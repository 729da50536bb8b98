use Rattle.std.proofs.Common.{◌≡◌, ℕ, ◌+◌, ◌-◌, ◌<◌, ◌≤◌, min, ◌⊎◌, Option, Some, None, IfSome, List, length, get_or, set, sym, refl, ap, subst, inl, inr, arith}
use Rattle.std.proofs.lemmas.Bool.{cases_lt}
use Rattle.automaton.specs.declared.machine.Automaton.{Automaton}
use Rattle.automaton.specs.RowList.{rows_of}
use Rattle.automaton.specs.Tracks.{Earliest}
use Rattle.automaton.proofs.Marking.{Marking, put, covered, bare}
use Rattle.automaton.proofs.machine.Automaton.mark.Goals as goal
use Rattle.automaton.proofs.machine.Automaton.mark.Goals.{in-Some, in_default, Joined-leasts-i}

-- the least start so far, with the least start of one symbol more
Lower : Option ℕ → ℕ → ℕ → Type 0
Lower o low less = (less ≤ low) × IfSome o (λ e. less ≤ e) × ((less ≡ low) ⊎ (o ≡ Some less))

lower_some : (o : Option ℕ) (e less low : ℕ) → o ≡ Some e → less ≡ min low e → Lower o low less
unfolding Lower
lower_some o e less low is m = subst (λ o. (less ≤ low) × IfSome o (λ e. less ≤ e) × ((less ≡ low) ⊎ (o ≡ Some less))) (sym is) (omega arith, omega arith, elim (cases_lt low e) [ inl h ↦ inl (omega arith) | inr h ↦ inr (ap Some (omega arith)) ])

lower_none : (o : Option ℕ) (less low : ℕ) → ((e : ℕ) → o ≡ Some e → ⊥) → less ≡ low → Lower o low less
unfolding Lower
lower_none None less low is m = (omega arith, tt, inl m)
lower_none (Some e) less low is m = absurd (is e refl)

module _ (a : Automaton) (rows : List ℕ) (least : List (Option ℕ)) (before after : List ℕ) (low count i less : ℕ) (m : Marking a rows least before after low count i) (pos : 0 < i)
    (hi : i ≤ length rows) (ls : (j : ℕ) → j < length rows → Earliest a rows (j + 1) (get_or least j None)) (w : Lower (get_or least (i - 1) None) low less) where
  back : Marking a rows least before after low count ((i - 1) + 1)
  back = let s : i ≡ (i - 1) + 1 = omega arith in subst (Marking a rows least before after low count) s m

  one : less ≤ i - 1 → Marking a rows least before (set after (i - 1) 1) less (count + 1) (i - 1)
  unfolding Lower
  one h =
      put a rows least before after low count (i - 1) back (omega arith) ls less w.0 w.1 w.2 1 (count + 1)
      (inl (refl, covered a rows least before after low count (i - 1) back (omega arith) ls less w.0 w.1 w.2 h)) (omega arith) (omega (arith, m.few))

  nil : i - 1 < less → Marking a rows least before (set after (i - 1) 0) less count (i - 1)
  unfolding Lower
  nil h =
      put a rows least before after low count (i - 1) back (omega arith) ls less w.0 w.1 w.2 0 count
      (inr (refl, bare a rows least before after low count (i - 1) back (omega arith) ls less w.0 w.1 w.2 h)) (omega arith) (omega (arith, m.few))

-- what the least starts are, by the rows in place of their slice
starts : (a : Automaton) (line rows : List ℕ) (least : List (Option ℕ)) → line ≡ rows → ((j : ℕ) → j < length line → Earliest a line (j + 1) (get_or least j None))
    → (j : ℕ) → j < length rows → Earliest a rows (j + 1) (get_or least j None)
starts a line rows least e = subst (λ xs. (j : ℕ) → j < length xs → Earliest a xs (j + 1) (get_or least j None)) e

-- the least start so far, after the symbol is looked at
lowered : (c : Joined-leasts-i) → Lower (get_or c.leasts-leasts.result (c.loop-i.i - 1) None) c.loop-i.low c.match-leasts-i.low
lowered c = elim c.match-leasts-i.branch [
  | in-Some w ↦ lower_some _ _ c.match-leasts-i.low c.loop-i.low w.in-Some.is (omega (arith, w.low-is, w.min-low.ensures))
  | in_default w ↦ lower_none _ c.match-leasts-i.low c.loop-i.low w.in_default.not-Some w.low-is
]

-- the least starts, by the rows
told : (c : Joined-leasts-i) → (j : ℕ) → j < length (rows_of c.args.rows.now) → Earliest c.args.self.now (rows_of c.args.rows.now) (j + 1) (get_or c.leasts-leasts.result j None)
told c = starts _ _ _ _ c.as_slice-line.ensures.rows c.leasts-leasts.ensures

pub loop-i-preserved-then-low-i : goal.loop-i-preserved-then-low-i
loop-i-preserved-then-low-i c =
    let n = ap length c.as_slice-line.ensures.rows in
    let at = (goal.at.loop-i-preserved-then-low-i c).Joined-leasts-i in
    one _ _ _ _ _ _ _ _ _ c.loop-i.invariant c.loop-i-test.true (omega arith) (told at) (lowered at) (omega (arith, c.if-low-i.true))

pub loop-i-preserved : goal.loop-i-preserved
loop-i-preserved c =
    let n = ap length c.as_slice-line.ensures.rows in
    let at = (goal.at.loop-i-preserved c).Joined-leasts-i in
    nil _ _ _ _ _ _ _ _ _ c.loop-i.invariant c.loop-i-test.true (omega arith) (told at) (lowered at) (omega (arith, c.if-low-i.false))
