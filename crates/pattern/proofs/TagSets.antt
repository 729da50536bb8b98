-- The bits of a set of tags.
use Rattle.std.proofs.Common.{◌≡◌, ℕ, zero, suc, ◌+◌, ◌-◌, ◌*◌, ◌/◌, ◌%◌, ◌^◌, ◌<◌, ◌≤◌, Bool, true, false, cond, eqb, sym, ap, ◌∙◌, subst, inl, inr, eqb-true, pow-suc, pow_mono, one-add, arith}
use Rattle.std.proofs.lemmas.Bool.{cases_lt, cases_eq, eq-eqb}
use Rattle.std.proofs.lemmas.Nat.{pow_pos, pow-add, div_below, div-mul-add, shr-shr}
use Rattle.std.proofs.Math.Nat.{add-mul-div_right}
use Rattle.pattern.specs.Expressions.{Expr}
use Rattle.pattern.specs.Tags.{inside, tags_up_to, tag_set}
use Rattle.automaton.specs.Bit.{bit}

-- a bit, or nothing
one_or_none : (n : ℕ) (b : Bool) → cond b (2 ^ n) 0 ≤ 2 ^ n
one_or_none n true = omega arith
one_or_none n false = omega arith

-- a set of the tags from 1 to n is below 2 ^ n
up_to_below : (n : ℕ) (e : Expr) (p : ℕ) → tags_up_to n e p < 2 ^ n
up_to_below zero e p = omega arith
up_to_below (suc n) e p = omega (arith, up_to_below n e p, one_or_none n (inside e (suc n) p), pow-suc 2 n)

pub tag_set_below : (e : Expr) (p : ℕ) → tag_set e p < 256
unfolding tag_set
tag_set_below e p = up_to_below 8 e p

-- the highest bit that a set may have
top_bit : (x n : ℕ) (b : Bool) → x < 2 ^ n → bit (x + cond b (2 ^ n) 0) n ≡ b
top_bit x n true h = ap (λ d. eqb (d % 2) 1) (ap (λ s. s / 2 ^ n) (omega arith) ∙ div-mul-add 1 (2 ^ n) x h)
top_bit x n false h = ap (λ d. eqb (d % 2) 1) (ap (λ s. s / 2 ^ n) (omega arith) ∙ div-mul-add 0 (2 ^ n) x h)

-- a lower bit, which a higher one leaves as it was
low_bit : (x n k : ℕ) (b : Bool) → k < n → bit (x + cond b (2 ^ n) 0) k ≡ bit x k
low_bit x n k true h =
    let m = 2 ^ (n - k - 1) in
    let two : 2 ^ (n - k - 1 + 1) ≡ m * 2 = omega (arith, pow-add 2 (n - k - 1) 1) in
    let is : n ≡ n - k - 1 + 1 + k = omega arith in
    let wide : 2 ^ n ≡ (m * 2) * 2 ^ k = ap (λ j. 2 ^ j) is ∙ pow-add 2 (n - k - 1 + 1) k ∙ ap (λ j. j * 2 ^ k) two in
    let more : (x + 2 ^ n) / 2 ^ k ≡ x / 2 ^ k + m * 2 = ap (λ w. (x + w) / 2 ^ k) wide ∙ add-mul-div_right x (m * 2) (pow_pos k) in
    ap (λ d. eqb d 1) (omega (arith, more))
low_bit x n k false h = ap (λ s. bit s k) (omega arith)

up_to_bit : (n : ℕ) (e : Expr) (p k : ℕ) → k < n → bit (tags_up_to n e p) k ≡ inside e (suc k) p
up_to_bit zero e p k h = absurd (omega arith)
up_to_bit (suc n) e p k h = elim (cases_lt k n) [
  | inl l ↦ low_bit (tags_up_to n e p) n k (inside e (suc n) p) l ∙ up_to_bit n e p k l
  | inr l ↦
      (let is : n ≡ k = omega arith in
      subst (λ j. bit (tags_up_to (suc n) e p) j ≡ inside e (suc j) p) is (top_bit (tags_up_to n e p) n (inside e (suc n) p) (up_to_below n e p)))
]

-- bit t - 1 of the set says whether the test is inside the tag t
pub tag_set_bit : (e : Expr) (p t : ℕ) → 1 ≤ t → t ≤ 8 → bit (tag_set e p) (t - 1) ≡ inside e t p
unfolding tag_set
tag_set_bit e p t low high = up_to_bit 8 e p (t - 1) (omega arith) ∙ ap (λ n. inside e n p) (omega arith)

-- a number below 2 ^ n has no bit from n on
pub no_bit : (x n k : ℕ) → x < 2 ^ n → n ≤ k → bit x k ≡ false
no_bit x n k h l =
    let z : x / 2 ^ k < 1 = div_below x (2 ^ k) 1 (pow_pos k) (omega (arith, pow_mono {i = n} {j = k} l)) in
    let none : x / 2 ^ k ≡ 0 = omega (arith, z) in
    ap (λ d. eqb (d % 2) 1) none

-- ---- numbers with the same bits
next_bit : (x k : ℕ) → bit x (suc k) ≡ bit (x / 2) k
next_bit x k = ap (λ d. eqb (d % 2) 1) (ap (λ n. x / 2 ^ n) (sym (one-add k)) ∙ sym (shr-shr x 1 k))

first_bit : (x y : ℕ) → bit x 0 ≡ bit y 0 → x % 2 ≡ y % 2
first_bit x y h =
    let at : (z : ℕ) → bit z 0 ≡ eqb (z % 2) 1 = λ z. ap (λ d. eqb (d % 2) 1) (omega arith) in
    let same : eqb (x % 2) 1 ≡ eqb (y % 2) 1 = sym (at x) ∙ h ∙ at y in
    elim (cases_eq (x % 2) 1) [
      | inl a ↦ a ∙ sym (eqb-true (y % 2) 1 (sym same ∙ eq-eqb (x % 2) 1 a))
      | inr a ↦ elim (cases_eq (y % 2) 1) [
        | inl b ↦ absurd (a (eqb-true (x % 2) 1 (same ∙ eq-eqb (y % 2) 1 b)))
        | inr b ↦ omega (arith, a, b)
      ]
    ]

same_below : (n x y : ℕ) → x < 2 ^ n → y < 2 ^ n → ((k : ℕ) → bit x k ≡ bit y k) → x ≡ y
same_below zero x y l r h = omega arith
same_below (suc n) x y l r h =
    let half : x / 2 ≡ y / 2 = same_below n (x / 2) (y / 2) (omega (arith, pow-suc 2 n)) (omega (arith, pow-suc 2 n)) (λ k. sym (next_bit x k) ∙ h (suc k) ∙ next_bit y k) in
    omega (arith, half, first_bit x y (h 0))

under_pow : (x : ℕ) → x < 2 ^ x
under_pow zero = omega arith
under_pow (suc x) = omega (arith, under_pow x, pow-suc 2 x)

pub same_bits : (x y : ℕ) → ((k : ℕ) → bit x k ≡ bit y k) → x ≡ y
same_bits x y h =
    same_below (x + y) x y
    (omega (arith, under_pow x, pow_mono {i = x} {j = x + y} (omega arith)))
    (omega (arith, under_pow y, pow_mono {i = y} {j = x + y} (omega arith))) h
