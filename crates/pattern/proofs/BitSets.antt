-- Sets of positions, by what is in them.
use Rattle.std.proofs.Common.{◌≡◌, ℕ, ◌^◌, ◌<◌, Bool, true, false, cond, ◌&&◌, ◌||◌, eqb, ◌⊎◌, List, length, get_or, set, sym, refl, subst, inl, inr, get_or-set_other, get_or-set_same, eqb-true}
use lib.Bits.{bit_or}
use Rattle.std.proofs.lemmas.Bool.{cases_eq, or_cases, or_left, or_right, eq-eqb}
use Rattle.automaton.specs.Bit.{In, bit}
use Rattle.automaton.proofs.Bits.{in_or, or_in, one_in, in_one}
use Rattle.automaton.proofs.BitTests.{bit_in, in_bit, same_test, bit_none}

pub bit_union : (x y k : ℕ) → bit (bit_or x y) k ≡ bit x k || bit y k
bit_union x y k =
    same_test _ _
    (λ e. elim (in_or {x = x} {y = y} (bit_in {x = bit_or x y} {k = k} e)) [ inl a ↦ or_left (bit x k) (bit y k) (in_bit a) | inr b ↦ or_right (bit x k) (bit y k) (in_bit b) ])
    (λ e. in_bit (elim (or_cases (bit x k) (bit y k) e) [ inl a ↦ or_in {x = x} {y = y} (inl (bit_in {x = x} {k = k} a)) | inr b ↦ or_in {x = x} {y = y} (inr (bit_in {x = y} {k = k} b)) ]))

-- a set, or none
pub bit_if : (b : Bool) (x k : ℕ) → bit (cond b x 0) k ≡ b && bit x k
bit_if true x k = refl
bit_if false x k = bit_none k

pub bit_one : (j k : ℕ) → bit (2 ^ j) k ≡ eqb j k
bit_one j k =
    same_test _ _
    (λ e. eq-eqb j k (sym (in_one j k (bit_in {x = 2 ^ j} {k = k} e))))
    (λ e. in_bit (subst (λ n. In (2 ^ j) n) (eqb-true j k e) (one_in j)))

-- a table in which one set was widened
module _ (xs : List ℕ) (t more : ℕ) (within : t < length xs) where
  abbrev widened : List ℕ
  widened = set xs t (bit_or (get_or xs t 0) more)

  here : get_or widened t 0 ≡ bit_or (get_or xs t 0) more
  here = get_or-set_same xs t (bit_or (get_or xs t 0) more) 0 within

  there : (p : ℕ) → (p ≡ t → ⊥) → get_or widened p 0 ≡ get_or xs p 0
  there p ne = get_or-set_other xs t p (bit_or (get_or xs t 0) more) 0 ne

  pub widened_new : (q : ℕ) → In more q → In (get_or widened t 0) q
  widened_new q e = subst (λ x. In x q) (sym here) (or_in {x = get_or xs t 0} {y = more} (inr e))

  pub widened_old : (p q : ℕ) → In (get_or xs p 0) q → In (get_or widened p 0) q
  widened_old p q e = elim (cases_eq p t) [
    | inl s ↦ subst (λ n. In (get_or widened n 0) q) (sym s) (subst (λ x. In x q) (sym here) (or_in {x = get_or xs t 0} {y = more} (inl (subst (λ n. In (get_or xs n 0) q) s e))))
    | inr ne ↦ subst (λ x. In x q) (sym (there p ne)) e
  ]

  pub in_widened : (p q : ℕ) → In (get_or widened p 0) q → In (get_or xs p 0) q ⊎ ((p ≡ t) × In more q)
  in_widened p q e = elim (cases_eq p t) [
    | inl s ↦ elim (in_or {x = get_or xs t 0} {y = more} (subst (λ x. In x q) here (subst (λ n. In (get_or widened n 0) q) s e))) [ inl a ↦ inl (subst (λ n. In (get_or xs n 0) q) (sym s) a) | inr b ↦ inr (s, b) ]
    | inr ne ↦ inl (subst (λ x. In x q) (there p ne) e)
  ]
