-- The bytes of a number.
use Rattle.std.proofs.Common.{◌≡◌, ℕ, zero, suc, ◌+◌, ◌*◌, ◌/◌, ◌%◌, ◌<◌, ◌≤◌, [], ◌∷◌, length, sym, refl, ap, ◌∙◌, subst, ⊎_elim, arith}
use Rattle.std.proofs.lemmas.Bool.{cases_lt, cond-true, cond-false, lt-ltb, le-ltb}
use Rattle.cue.specs.Leb128.{Shortest, last, more, groups, leb128}

small_groups : (most n : ℕ) → n < 128 → groups most n ≡ n ∷ []
small_groups zero n h = refl
small_groups (suc most) n h = cond-true _ _ _ (lt-ltb n 128 h)

enough_groups : (most many n : ℕ) → n ≤ most → n ≤ many → groups most n ≡ groups many n
enough_groups zero many n h l = sym (small_groups many n (omega (arith, h)))
enough_groups (suc most) zero n h l = small_groups (suc most) n (omega (arith, l))
enough_groups (suc most) (suc many) n h l = ⊎_elim
    (λ few. small_groups (suc most) n few ∙ sym (small_groups (suc many) n few))
    (λ some.
    cond-false _ _ _ (le-ltb n 128 some)
    ∙ ap (λ bytes. (128 + n % 128) ∷ bytes) (enough_groups most many (n / 128) (omega (arith, h, some)) (omega (arith, l, some)))
    ∙ sym (cond-false _ _ _ (le-ltb n 128 some)))
    (cases_lt n 128)

pub leb_small : (n : ℕ) → n < 128 → leb128 n ≡ n ∷ []
leb_small n h = small_groups n n h

pub leb_step : (n : ℕ) → 128 ≤ n → leb128 n ≡ (128 + n % 128) ∷ leb128 (n / 128)
leb_step zero h = absurd (omega (arith, h))
leb_step (suc n) h =
    cond-false _ _ _ (le-ltb (suc n) 128 h)
    ∙ ap (λ bytes. (128 + suc n % 128) ∷ bytes) (enough_groups n (suc n / 128) (suc n / 128) (omega (arith, h)) (omega arith))

shortest_groups : (most n : ℕ) → n ≤ most → Shortest n (groups most n)
shortest_groups zero n h = last (omega (arith, h))
shortest_groups (suc most) n h = ⊎_elim
    (λ few. subst (Shortest n) (sym (small_groups (suc most) n few)) (last few))
    (λ some.
    let whole : n % 128 + 128 * (n / 128) ≡ n = omega arith in
    subst (Shortest n) (sym (cond-false _ _ _ (le-ltb n 128 some)))
    (subst (λ k. Shortest k ((128 + n % 128) ∷ groups most (n / 128))) whole (more (omega arith) (omega (arith, some)) (shortest_groups most (n / 128) (omega (arith, h, some))))))
    (cases_lt n 128)

-- the bytes of any number are its shortest form
pub leb_shortest : (n : ℕ) → Shortest n (leb128 n)
leb_shortest n = shortest_groups n n (omega arith)

pub leb_two : (n : ℕ) → 128 ≤ n → n < 16384 → leb128 n ≡ (128 + n % 128) ∷ (n / 128 ∷ [])
leb_two n h l = leb_step n h ∙ ap (λ bytes. (128 + n % 128) ∷ bytes) (leb_small (n / 128) (omega (arith, l)))

pub leb_length : (n : ℕ) → n < 16384 → length (leb128 n) ≤ 2
leb_length n h = ⊎_elim (λ few. omega (arith, ap length (leb_small n few))) (λ some. omega (arith, ap length (leb_two n some h))) (cases_lt n 128)
