-- The table of positions before has only positions.
use Rattle.std.proofs.Common.{◌≡◌, ℕ, ◌<◌, List, [], get_or, length, set, replicate, sym, ap, ◌∙◌, subst, inl, inr, arith}
use Rattle.std.proofs.lemmas.List.{get_or-replicate, get_or_past, get_or-set_same, get_or-set_other, length-replicate}
use Rattle.std.proofs.lemmas.Bool.{cases_lt, cases_eq}
use Rattle.splitting.specs.Steps.{Low}

pub low_row : (n q : ℕ) → get_or (replicate n 0) q 0 < 64
low_row n q = elim (cases_lt q n) [
  | inl h ↦ (let e : ◌≡◌ {A = ℕ} (get_or (replicate n 0) q 0) 0 = get_or-replicate n q 0 0 h in omega (arith, e))
  | inr h ↦ (let e : ◌≡◌ {A = ℕ} (get_or (replicate n 0) q 0) 0 = get_or_past (replicate n 0) q 0 (omega (arith, h, length-replicate {A = ℕ} n 0)) in omega (arith, e))
]

pub low_none : (n k : ℕ) → Low (replicate n (replicate k 0))
low_none n k i q = elim (cases_lt i n) [
  | inl h ↦ subst (λ r. get_or r q 0 < 64) (sym (get_or-replicate n i (replicate k 0) [] h)) (low_row k q)
  | inr h ↦ subst (λ r. get_or r q 0 < 64) (sym (get_or_past (replicate n (replicate k 0)) i [] (omega (arith, h, length-replicate n (replicate {A = ℕ} k 0))))) (omega arith)
]

pub low_set : (back : List (List ℕ)) (i : ℕ) (row : List ℕ) → i < length back → ((q : ℕ) → get_or row q 0 < 64) → Low back → Low (set back i row)
low_set back i row h r low j q = elim (cases_eq j i) [
  | inl e ↦ subst (λ x. get_or x q 0 < 64) (sym (ap (λ n. get_or (set back i row) n []) e ∙ get_or-set_same back i row [] h)) (r q)
  | inr n ↦ subst (λ x. get_or x q 0 < 64) (sym (get_or-set_other back i j row [] n)) (low j q)
]
