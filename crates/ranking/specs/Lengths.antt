-- The lengths of the tags, one by one, and how they compare. These are lemmas, which `lawful` of `TagOrder` needs: a reader of the
-- definitions may skip them.
use Rattle.std.specs.Prelude.{◌≡◌, ℕ, zero, suc, ◌+◌, ◌/◌, ◌%◌, ◌^◌, ◌<◌, ◌≤◌, true, cond, ◌⊎◌, List, [], ◌∷◌, length, replicate, nat_lt, slice_index, refl}
use Rattle.std.specs.declared.cmp.Ordering.TheVariants.{Less, Equal, Greater}
use Rattle.std.specs.declared.cmp.Ordering.{Ordering}
use Rattle.std.proofs.Common.{sym, ap, ◌∙◌, true≢false, inl, inr, arith, one-add}
use Rattle.std.specs.Ordering.{ordering_reverse, is_ge, ordering_then, nat_cmp}
use Rattle.std.specs.Cmp.Lexicographic.{slice_cmp}
use Rattle.std.proofs.lemmas.Nat.{shr-shr}
use Rattle.std.proofs.lemmas.List.{get_or-replicate, get_or_past, length-replicate}
use Rattle.std.proofs.lemmas.Bool.{cases_lt, cases_order, lt-ltb, le-ltb}
use Rattle.ranking.specs.Laws.{Near, at_start, one_more}
use Rattle.ranking.specs.Numbers.{ordered}
use Rattle.ranking.specs.TagLengths.{longer_by, first_difference}

pub longer_length : (lengths : List ℕ) (tags : ℕ) → length (longer_by lengths tags) ≡ length lengths
longer_length [] tags = refl
longer_length (x ∷ lengths) tags = ap suc (longer_length lengths (tags / 2))

pub longer_at : (lengths : List ℕ) (tags k : ℕ) → k < length lengths → slice_index (longer_by lengths tags) k ≡ slice_index lengths k + (tags / 2 ^ k) % 2
longer_at [] tags k h = absurd (omega arith)
longer_at (x ∷ lengths) tags zero h = ap (λ n. x + n % 2) (omega arith)
longer_at (x ∷ lengths) tags (suc k) h =
    longer_at lengths (tags / 2) k (omega arith)
    ∙ ap (λ n. slice_index lengths k + n % 2) (shr-shr tags 1 k ∙ ap (λ n. tags / 2 ^ n) (one-add k))

none_long : (k : ℕ) → slice_index (replicate 8 0) k ≤ 0
none_long k = elim (cases_lt k 8) [
  | inl h ↦ (let e : ◌≡◌ {A = ℕ} (slice_index (replicate 8 0) k) 0 = get_or-replicate 8 k 0 0 h in omega (arith, e))
  | inr h ↦ (let e : ◌≡◌ {A = ℕ} (slice_index (replicate 8 0) k) 0 = get_or_past (replicate 8 0) k 0 (omega (arith, h, length-replicate {A = ℕ} 8 0)) in omega (arith, e))
]

-- after so many steps no tag is longer than that
pub no_longer : {n : ℕ} {lengths : List ℕ} → Near (replicate 8 0) longer_by n lengths → (k : ℕ) → slice_index lengths k ≤ n
no_longer at_start k = omega (arith, none_long k)
no_longer (one_more {n} {m = lengths} o tags h) k = elim (cases_lt k (length lengths)) [
  | inl l ↦ omega (arith, longer_at lengths tags k l, no_longer o k)
  | inr l ↦ omega (arith, get_or_past (longer_by lengths tags) k 0 (omega (arith, l, longer_length lengths tags)))
]

pub eight : {n : ℕ} {lengths : List ℕ} → Near (replicate 8 0) longer_by n lengths → length lengths ≡ 8
eight at_start = refl
eight (one_more {n} {m = lengths} o tags h) = longer_length lengths tags ∙ eight o

-- ---- two numbers
pub lower : (a b : ℕ) → a < b → ordered a b ≡ Less
lower a b h = ap (λ c. cond c Less (cond (nat_lt b a) Greater Equal)) (lt-ltb a b h)

pub higher : (a b : ℕ) → b < a → ordered a b ≡ Greater
higher a b h = ap (λ c. cond c Less (cond (nat_lt b a) Greater Equal)) (le-ltb a b (omega arith)) ∙ ap (λ c. cond c Greater Equal) (lt-ltb b a h)

pub same : (a b : ℕ) → a ≡ b → ordered a b ≡ Equal
same a b h = ap (λ c. cond c Less (cond (nat_lt b a) Greater Equal)) (le-ltb a b (omega arith)) ∙ ap (λ c. cond c Greater Equal) (le-ltb b a (omega arith))

ordered_swapped : (a b : ℕ) → ordered b a ≡ ordering_reverse (ordered a b)
ordered_swapped a b = elim (cases_order a b) [
  | inl e ↦ same b a (sym e) ∙ sym (ap ordering_reverse (same a b e))
  | inr (inl h) ↦ higher b a h ∙ sym (ap ordering_reverse (lower a b h))
  | inr (inr h) ↦ lower b a h ∙ sym (ap ordering_reverse (higher a b h))
]

ordered_shifted : (a b d : ℕ) → ordered (a + d) (b + d) ≡ ordered a b
ordered_shifted a b d = elim (cases_order a b) [
  | inl e ↦ same (a + d) (b + d) (omega arith) ∙ sym (same a b e)
  | inr (inl h) ↦ lower (a + d) (b + d) (omega arith) ∙ sym (lower a b h)
  | inr (inr h) ↦ higher (a + d) (b + d) (omega arith) ∙ sym (higher a b h)
]

-- ---- two lists of lengths
then_reversed : (o p : Ordering) → ordering_then (ordering_reverse o) (ordering_reverse p) ≡ ordering_reverse (ordering_then o p)
then_reversed Less p = refl
then_reversed Equal p = refl
then_reversed Greater p = refl

pub swapped : (xs ys : List ℕ) → first_difference ys xs ≡ ordering_reverse (first_difference xs ys)
swapped [] [] = refl
swapped [] (y ∷ ys) = refl
swapped (x ∷ xs) [] = refl
swapped (x ∷ xs) (y ∷ ys) =
    ap (λ o. ordering_then o (first_difference ys xs)) (ordered_swapped x y)
    ∙ ap (λ o. ordering_then (ordering_reverse (ordered x y)) o) (swapped xs ys)
    ∙ then_reversed (ordered x y) (first_difference xs ys)

pub same_step : (xs ys : List ℕ) (tags : ℕ) → first_difference (longer_by xs tags) (longer_by ys tags) ≡ first_difference xs ys
same_step [] [] tags = refl
same_step [] (y ∷ ys) tags = refl
same_step (x ∷ xs) [] tags = refl
same_step (x ∷ xs) (y ∷ ys) tags =
    ap (λ o. ordering_then o (first_difference (longer_by xs (tags / 2)) (longer_by ys (tags / 2)))) (ordered_shifted x y (tags % 2))
    ∙ ap (ordering_then (ordered x y)) (same_step xs ys (tags / 2))

-- the two first lengths, as they compare
heads : (x y : ℕ) (o : Ordering) → is_ge (ordering_then (ordered x y) o) ≡ true → (y < x) ⊎ ((x ≡ y) × (is_ge o ≡ true))
heads x y o h = elim (cases_order x y) [
  | inl e ↦ inr (e, sym (ap (λ p. is_ge (ordering_then p o)) (same x y e)) ∙ h)
  | inr (inl l) ↦ absurd (true≢false (sym h ∙ ap (λ p. is_ge (ordering_then p o)) (lower x y l)))
  | inr (inr g) ↦ inl g
]

by_heads : (x y : ℕ) (o : Ordering) → (y < x) ⊎ ((x ≡ y) × (is_ge o ≡ true)) → is_ge (ordering_then (ordered x y) o) ≡ true
by_heads x y o (inl g) = ap (λ p. is_ge (ordering_then p o)) (higher x y g)
by_heads x y o (inr e) = ap (λ p. is_ge (ordering_then p o)) (same x y e.0) ∙ e.1

both : (x y z : ℕ) (o p q : Ordering) → (is_ge o ≡ true → is_ge p ≡ true → is_ge q ≡ true)
    → (y < x) ⊎ ((x ≡ y) × (is_ge o ≡ true)) → (z < y) ⊎ ((y ≡ z) × (is_ge p ≡ true)) → (z < x) ⊎ ((x ≡ z) × (is_ge q ≡ true))
both x y z o p q f (inl a) (inl b) = inl (omega arith)
both x y z o p q f (inl a) (inr b) = inl (omega (arith, b.0))
both x y z o p q f (inr a) (inl b) = inl (omega (arith, a.0))
both x y z o p q f (inr a) (inr b) = inr (a.0 ∙ b.0, f a.1 b.1)

pub transitive : (xs ys zs : List ℕ) → is_ge (first_difference xs ys) ≡ true → is_ge (first_difference ys zs) ≡ true → is_ge (first_difference xs zs) ≡ true
transitive [] [] zs h g = g
transitive [] (y ∷ ys) zs h g = absurd (true≢false (sym h))
transitive (x ∷ xs) ys [] h g = refl
transitive (x ∷ xs) [] (z ∷ zs) h g = absurd (true≢false (sym g))
transitive (x ∷ xs) (y ∷ ys) (z ∷ zs) h g =
    by_heads x z (first_difference xs zs)
    (both x y z (first_difference xs ys) (first_difference ys zs) (first_difference xs zs) (transitive xs ys zs)
    (heads x y (first_difference xs ys) h) (heads y z (first_difference ys zs) g))

-- ---- what the comparison of two arrays answers
told : (x y : ℕ) → nat_cmp x y ≡ ordered x y
told x y = elim (cases_order x y) [
  | inl e ↦ grind (arith, same x y e)
  | inr (inl h) ↦ grind (arith, lower x y h)
  | inr (inr h) ↦ grind (arith, higher x y h)
]

pub answered : (xs ys : List ℕ) → slice_cmp nat_cmp xs ys ≡ first_difference xs ys
answered [] [] = refl
answered [] (y ∷ ys) = refl
answered (x ∷ xs) [] = refl
answered (x ∷ xs) (y ∷ ys) = ap (λ o. ordering_then o (slice_cmp nat_cmp xs ys)) (told x y) ∙ ap (ordering_then (ordered x y)) (answered xs ys)
