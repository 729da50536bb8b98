-- The bits of a number.
use Rattle.std.proofs.Common.{◌≡◌, ℕ, zero, suc, ◌+◌, ◌-◌, ◌*◌, ◌/◌, ◌%◌, ◌^◌, ◌<◌, ◌≤◌, ◌⊎◌, sym, refl, ap, ◌∙◌, subst, inl, inr, one-mul, pow-suc, one-add, arith, pow_mono}
use lib.Bits.{bit_and, bit_or, bit_xor, and_zero_l, and_zero_r, or_zero_l, xor_add_and}
use lib.Count.{count_trailing_zeros, under}
use Rattle.std.proofs.lemmas.Nat.{pow_pos, div_below, shr-shr, and_shr, or_shr, xor_shr, and_mod, or_mod, xor_mod, and_mask, pow-add, pow_below, shl-shr}
use Rattle.std.proofs.lemmas.Bool.{cases_eq, cases_lt}
use Rattle.automaton.specs.Bit.{In}
use Rattle.automaton.specs.PositionSets.{Lowest}

abbrev bit : ℕ → ℕ → ℕ
bit x k = (x / 2 ^ k) % 2

digit : (d : ℕ) → d < 2 → (d ≡ 0) ⊎ (d ≡ 1)
digit zero h = inl refl
digit (suc zero) h = inr refl
digit (suc (suc d)) h = absurd (omega arith)

two : (n : ℕ) → (n % 2 ≡ 0) ⊎ (n % 2 ≡ 1)
two n = digit (n % 2) (omega arith)

and_bit : (x y k : ℕ) → bit (bit_and x y) k ≡ bit_and (bit x k) (bit y k)
and_bit x y k = ap (λ n. n % 2) (and_shr x y k) ∙ and_mod (x / 2 ^ k) (y / 2 ^ k) 1

or_bit : (x y k : ℕ) → bit (bit_or x y) k ≡ bit_or (bit x k) (bit y k)
or_bit x y k = ap (λ n. n % 2) (or_shr x y k) ∙ or_mod (x / 2 ^ k) (y / 2 ^ k) 1

xor_bit : (x y k : ℕ) → bit (bit_xor x y) k ≡ bit_xor (bit x k) (bit y k)
xor_bit x y k = ap (λ n. n % 2) (xor_shr x y k) ∙ xor_mod (x / 2 ^ k) (y / 2 ^ k) 1

both : (a b : ℕ) → (a ≡ 0) ⊎ (a ≡ 1) → (b ≡ 0) ⊎ (b ≡ 1) → bit_and a b ≡ 1 → (a ≡ 1) × (b ≡ 1)
both a b (inl p) q e = let z : ◌≡◌ {A = ℕ} 0 1 = sym (ap (λ n. bit_and n b) p ∙ and_zero_l b) ∙ e in absurd (omega arith)
both a b (inr p) (inl q) e = let z : ◌≡◌ {A = ℕ} 0 1 = sym (ap (λ n. bit_and a n) q ∙ and_zero_r a) ∙ e in absurd (omega arith)
both a b (inr p) (inr q) e = (p, q)

pub in_and : {x y k : ℕ} → In (bit_and x y) k → In x k × In y k
in_and {x = x} {y = y} {k = k} e =
    let b = both (bit x k) (bit y k) (two (x / 2 ^ k)) (two (y / 2 ^ k)) (sym (and_bit x y k) ∙ e.is) in
    (record { is = b.0 }, record { is = b.1 })

pub and_in : {x y k : ℕ} → In x k → In y k → In (bit_and x y) k
and_in {x = x} {y = y} {k = k} p q = record { is = and_bit x y k ∙ ap (λ n. bit_and n (bit y k)) p.is ∙ ap (λ n. bit_and 1 n) q.is }

one_of : (a b : ℕ) → (a ≡ 0) ⊎ (a ≡ 1) → bit_or a b ≡ 1 → (a ≡ 1) ⊎ (b ≡ 1)
one_of a b (inl p) e = inr (sym (ap (λ n. bit_or n b) p ∙ or_zero_l b) ∙ e)
one_of a b (inr p) e = inl p

pub in_or : {x y k : ℕ} → In (bit_or x y) k → In x k ⊎ In y k
in_or {x = x} {y = y} {k = k} e = elim (one_of (bit x k) (bit y k) (two (x / 2 ^ k)) (sym (or_bit x y k) ∙ e.is)) [ inl p ↦ inl (record { is = p }) | inr p ↦ inr (record { is = p }) ]

or_of : (a b : ℕ) → (a ≡ 0) ⊎ (a ≡ 1) → (b ≡ 0) ⊎ (b ≡ 1) → (a ≡ 1) ⊎ (b ≡ 1) → bit_or a b ≡ 1
or_of a b (inl p) (inl q) (inl r) = absurd (omega arith)
or_of a b (inl p) (inl q) (inr r) = absurd (omega arith)
or_of a b (inl p) (inr q) r = ap (λ n. bit_or n b) p ∙ ap (λ n. bit_or 0 n) q
or_of a b (inr p) (inl q) r = ap (λ n. bit_or n b) p ∙ ap (λ n. bit_or 1 n) q
or_of a b (inr p) (inr q) r = ap (λ n. bit_or n b) p ∙ ap (λ n. bit_or 1 n) q

pub or_in : {x y k : ℕ} → In x k ⊎ In y k → In (bit_or x y) k
or_in {x = x} {y = y} {k = k} r =
    let which : (bit x k ≡ 1) ⊎ (bit y k ≡ 1) = elim r [ inl p ↦ inl p.is | inr p ↦ inr p.is ] in
    record { is = or_bit x y k ∙ or_of (bit x k) (bit y k) (two (x / 2 ^ k)) (two (y / 2 ^ k)) which }

-- every bit below 64
full : {x k : ℕ} → x < 2 ^ 64 → In x k → In (2 ^ 64 - 1) k
full {x = x} {k = k} h e =
    let same : bit_and x (2 ^ 64 - 1) ≡ x = and_mask x 64 ∙ omega arith in
    (in_and {x = x} {y = 2 ^ 64 - 1} (subst (λ n. In n k) (sym same) e)).1

flip : (t : ℕ) → t < 2 ^ 64 → bit_xor t (2 ^ 64 - 1) ≡ 2 ^ 64 - 1 - t
flip t h = omega (arith, xor_add_and t (2 ^ 64 - 1), and_mask t 64)

pub in_not : {t k : ℕ} → t < 2 ^ 64 → In (2 ^ 64 - 1 - t) k → In t k → ⊥
in_not {t = t} {k = k} h e s =
    let x : bit (bit_xor t (2 ^ 64 - 1)) k ≡ 1 = subst (λ n. bit n k ≡ 1) (sym (flip t h)) e.is in
    let z : ◌≡◌ {A = ℕ} 0 1 = sym (xor_bit t (2 ^ 64 - 1) k ∙ ap (λ n. bit_xor n (bit (2 ^ 64 - 1) k)) s.is ∙ ap (λ n. bit_xor 1 n) (full h s).is) ∙ x in
    omega arith

off : (n : ℕ) → (n ≡ 0) ⊎ (n ≡ 1) → (n ≡ 1 → ⊥) → n ≡ 0
off n (inl p) f = p
off n (inr p) f = absurd (f p)

pub not_in : {x t k : ℕ} → x < 2 ^ 64 → t < 2 ^ 64 → In x k → (In t k → ⊥) → In (2 ^ 64 - 1 - t) k
not_in {x = x} {t = t} {k = k} g h e f =
    let z = off (bit t k) (two (t / 2 ^ k)) (λ p. f (record { is = p })) in
    record { is = subst (λ n. bit n k ≡ 1) (flip t h) (xor_bit t (2 ^ 64 - 1) k ∙ ap (λ n. bit_xor n (bit (2 ^ 64 - 1) k)) z ∙ ap (λ n. bit_xor 0 n) (full g e).is) }

-- whether a bit is set
pub asked : (x k : ℕ) → In x k ⊎ (In x k → ⊥)
asked x k = elim (two (x / 2 ^ k)) [ inl p ↦ inr (λ q. omega (arith, q.is)) | inr p ↦ inl (record { is = p }) ]

pub in_zero : {k : ℕ} → In 0 k → ⊥
in_zero {k = k} e = let h : 0 / 2 ^ k < 1 = div_below 0 (2 ^ k) 1 (pow_pos k) (omega (arith, pow_pos k)) in omega (arith, e.is)

-- ---- the lowest bit
bit_suc : (x k : ℕ) → bit x (suc k) ≡ bit (x / 2) k
bit_suc x k = ap (λ n. (x / 2 ^ n) % 2) (sym (one-add k)) ∙ ap (λ n. n % 2) (sym (shr-shr x 1 k))

bit_zero : (x : ℕ) → bit x 0 ≡ x % 2
bit_zero x = omega arith

even_low : (n x : ℕ) → x % 2 ≡ 0 → count_trailing_zeros (suc n) x ≡ suc (count_trailing_zeros n (x / 2))
unfolding count_trailing_zeros
even_low n x e = ap (λ d. under d (count_trailing_zeros n (x / 2))) e

odd_low : (n x : ℕ) → x % 2 ≡ 1 → count_trailing_zeros (suc n) x ≡ 0
unfolding count_trailing_zeros
odd_low n x e = ap (λ d. under d (count_trailing_zeros n (x / 2))) e

half : (n x : ℕ) → x < 2 ^ suc n → x / 2 < 2 ^ n
half n x h = omega (arith, pow-suc 2 n)

low_set : (n x : ℕ) → 0 < x → x < 2 ^ n → bit x (count_trailing_zeros n x) ≡ 1
low_set zero x p h = absurd (omega arith)
low_set (suc n) x p h = elim (two x) [
  | inl e ↦ ap (bit x) (even_low n x e) ∙ bit_suc x (count_trailing_zeros n (x / 2)) ∙ low_set n (x / 2) (omega arith) (half n x h)
  | inr e ↦ ap (bit x) (odd_low n x e) ∙ bit_zero x ∙ e
]

low_lost : (n x : ℕ) → 0 < x → x < 2 ^ n → bit (x - 1) (count_trailing_zeros n x) ≡ 0
low_lost zero x p h = absurd (omega arith)
low_lost (suc n) x p h = elim (two x) [
  | inl e ↦
      (let d : (x - 1) / 2 ≡ x / 2 - 1 = omega arith in
      ap (bit (x - 1)) (even_low n x e) ∙ bit_suc (x - 1) (count_trailing_zeros n (x / 2)) ∙ ap (λ m. bit m (count_trailing_zeros n (x / 2))) d ∙ low_lost n (x / 2) (omega arith) (half n x h))
  | inr e ↦ ap (bit (x - 1)) (odd_low n x e) ∙ bit_zero (x - 1) ∙ omega arith
]

others : (n x k : ℕ) → 0 < x → x < 2 ^ n → bit x k ≡ 1 → (k ≡ count_trailing_zeros n x → ⊥) → bit (x - 1) k ≡ 1
others zero x k p h b f = absurd (omega arith)
others (suc n) x zero p h b f = elim (two x) [
  | inl e ↦ absurd (omega (arith, bit_zero x))
  | inr e ↦ absurd (f (sym (odd_low n x e)))
]
others (suc n) x (suc k) p h b f = elim (two x) [
  | inl e ↦
      (let d : (x - 1) / 2 ≡ x / 2 - 1 = omega arith in
      bit_suc (x - 1) k ∙ ap (λ m. bit m k) d ∙ others n (x / 2) k (omega arith) (half n x h) (sym (bit_suc x k) ∙ b) (λ q. f (ap suc q ∙ sym (even_low n x e))))
  | inr e ↦
      (let d : (x - 1) / 2 ≡ x / 2 = omega arith in
      bit_suc (x - 1) k ∙ ap (λ m. bit m k) d ∙ sym (bit_suc x k) ∙ b)
]

least : (n x k : ℕ) → 0 < x → x < 2 ^ n → bit x k ≡ 1 → count_trailing_zeros n x ≤ k
least zero x k p h b = absurd (omega arith)
least (suc n) x zero p h b = elim (two x) [
  | inl e ↦ absurd (omega (arith, bit_zero x))
  | inr e ↦ omega (arith, odd_low n x e)
]
least (suc n) x (suc k) p h b = elim (two x) [
  | inl e ↦ omega (arith, even_low n x e, least n (x / 2) k (omega arith) (half n x h) (sym (bit_suc x k) ∙ b))
  | inr e ↦ omega (arith, odd_low n x e)
]

-- the lowest bit of x is set
pub low_in : (x : ℕ) → 0 < x → x < 2 ^ 64 → In x (count_trailing_zeros 64 x)
low_in x p h = record { is = low_set 64 x p h }

-- the others stay, and it goes
pub rest_in : (x k : ℕ) → 0 < x → x < 2 ^ 64 → In x k → (k ≡ count_trailing_zeros 64 x) ⊎ In (bit_and x (x - 1)) k
rest_in x k p h e = elim (cases_eq k (count_trailing_zeros 64 x)) [ inl q ↦ inl q | inr f ↦ inr (and_in {x = x} {y = x - 1} e (record { is = others 64 x k p h e.is f })) ]

-- the others are higher
pub rest_above : (x k : ℕ) → 0 < x → x < 2 ^ 64 → In (bit_and x (x - 1)) k → count_trailing_zeros 64 x < k
rest_above x k p h e =
    let b = in_and {x = x} {y = x - 1} e in
    elim (cases_eq k (count_trailing_zeros 64 x)) [
      | inl q ↦ absurd (omega (arith, b.1.is, ap (bit (x - 1)) q, low_lost 64 x p h))
      | inr f ↦ (let l = least 64 x k p h b.0.is in omega (arith, l, f))
    ]

under_pow : (x : ℕ) → x < 2 ^ x
under_pow zero = omega arith
under_pow (suc x) = omega (arith, under_pow x, pow-suc 2 x)

-- a number with no bit is 0
pub some_in : (x : ℕ) → (x ≡ 0) ⊎ ((k : ℕ) × In x k)
some_in zero = inl refl
some_in (suc x) = inr (count_trailing_zeros (suc x) (suc x), record { is = low_set (suc x) (suc x) (omega arith) (under_pow (suc x)) })

pub in_below : {x k : ℕ} → x < 2 ^ 64 → In x k → k < 64
in_below {x = x} {k = k} h e = elim (cases_lt k 64) [
  | inl l ↦ l
  | inr l ↦
      (let wide : 2 ^ 64 ≤ 2 ^ k = pow_mono l in
      let z : x / 2 ^ k < 1 = div_below x (2 ^ k) 1 (pow_pos k) (omega arith) in
      absurd (omega (arith, e.is)))
]

pub low_below : (x : ℕ) → 0 < x → x < 2 ^ 64 → count_trailing_zeros 64 x < 64
low_below x p h = in_below h (low_in x p h)

-- the lowest bit as a position, and the set without it
pub lowest_of : (x : ℕ) → 0 < x → x < 2 ^ 64 → Lowest x (count_trailing_zeros 64 x) (bit_and x (x - 1))
lowest_of x p h = record {
  below = low_below x p h;
  one = low_in x p h;
  each = λ q e. rest_in x q p h e;
  others = λ q e. (in_and {x = x} {y = x - 1} e).0;
  above = λ q e. rest_above x q p h e;
}

-- ---- a set of one position
pub one_in : (k : ℕ) → In (2 ^ k) k
one_in k =
    let e : 2 ^ k / 2 ^ k ≡ 1 = ap (λ n. n / 2 ^ k) (sym (one-mul (2 ^ k))) ∙ shl-shr 1 k in
    record { is = ap (λ n. n % 2) e }

-- a lower bit of a power of two is not set
below_one : (k j : ℕ) → j < k → bit (2 ^ k) j ≡ 0
below_one k j h =
    let d = k - j - 1 in
    let s : k ≡ (d + 1) + j = omega arith in
    let e : 2 ^ k ≡ 2 ^ (d + 1) * 2 ^ j = ap (λ n. 2 ^ n) s ∙ pow-add 2 (d + 1) j in
    let q : 2 ^ k / 2 ^ j ≡ 2 ^ (d + 1) = ap (λ n. n / 2 ^ j) e ∙ shl-shr (2 ^ (d + 1)) j in
    omega (arith, q, pow-add 2 d 1)

pub in_one : (k j : ℕ) → In (2 ^ k) j → j ≡ k
in_one k j e = elim (cases_lt j k) [
  | inl l ↦ absurd (omega (arith, e.is, below_one k j l))
  | inr l ↦ elim (cases_lt k j) [
    | inl g ↦
        (let z : 2 ^ k / 2 ^ j < 1 = div_below (2 ^ k) (2 ^ j) 1 (pow_pos j) (omega (arith, pow_below k j g)) in
        absurd (omega (arith, e.is)))
    | inr g ↦ omega arith
  ]
]
