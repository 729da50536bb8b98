-- Tests of every number below a limit, and of some number below it, that compute.
use Rattle.std.proofs.Common.{◌≡◌, ℕ, zero, suc, ◌<◌, Bool, true, false, ◌&&◌, ◌||◌, sym, subst, inl, inr, le_of_suc-le-suc, eq-or-lt_of_le, arith}
use Rattle.std.proofs.lemmas.Bool.{and_parts, or_cases, or_left, or_right}
use borrow.Author.Tests.{clash}

-- every number below n passes
abbrev pub every : ℕ → (ℕ → Bool) → Bool
every zero passes = true
every (suc n) passes = passes n && every n passes

-- some number below n passes
abbrev pub some : ℕ → (ℕ → Bool) → Bool
some zero passes = false
some (suc n) passes = passes n || some n passes

pub of_every : (n : ℕ) (passes : ℕ → Bool) → every n passes ≡ true → (k : ℕ) → k < n → passes k ≡ true
of_every zero passes h k below = let z : ⊥ = omega arith in elim z [ ]
of_every (suc n) passes h k below =
    let b = and_parts (passes n) (every n passes) h in
    elim (eq-or-lt_of_le (le_of_suc-le-suc below)) [
      | inl is ↦ (let P : ℕ → Type 0 = λ x. passes x ≡ true in subst P (sym is) b.0)
      | inr less ↦ of_every n passes b.1 k less
    ]

pub to_some : (n : ℕ) (passes : ℕ → Bool) (k : ℕ) → k < n → passes k ≡ true → some n passes ≡ true
to_some zero passes k below h = let z : ⊥ = omega arith in elim z [ ]
to_some (suc n) passes k below h =
    elim (eq-or-lt_of_le (le_of_suc-le-suc below)) [
      | inl is ↦ or_left (passes n) (some n passes) (let P : ℕ → Type 0 = λ x. passes x ≡ true in subst P is h)
      | inr less ↦ or_right (passes n) (some n passes) (to_some n passes k less h)
    ]

pub of_some : (n : ℕ) (passes : ℕ → Bool) → some n passes ≡ true → (k : ℕ) × (k < n) × (passes k ≡ true)
of_some zero passes h = elim (clash h) [ ]
of_some (suc n) passes h =
    elim (or_cases (passes n) (some n passes) h) [
      | inl a ↦ (n, omega arith, a)
      | inr b ↦ (let x = of_some n passes b in (x.0, (let less : x.0 < n = x.1 in omega arith), x.2))
    ]
