-- The laws of a ranking that is one of two. These are lemmas, which `lawful` of `Either` needs: a reader of the definitions may skip
-- them.
use Rattle.std.specs.Prelude.{◌≡◌, ℕ, refl}
use Rattle.std.specs.declared.cmp.Ordering.{Ordering}
use Rattle.std.proofs.Common.{sym, ap, ◌∙◌, subst}
use Rattle.std.specs.Ordering.{ordering_reverse, is_ge}
use Rattle.either.specs.declared.Either.{Either}
use Rattle.either.specs.declared.Either.TheVariants.{Left, Right}
use Rattle.either.specs.Either.{map_either}
use Rattle.ranking.specs.Laws.{Near, at_start, one_more, Lawful}
use Rattle.ranking.specs.OneOfTwo.{step_either, compare_either}

-- measures that stand on one side, by `put`, and are stepped there as without it
module _ {M E : Type 0} (put : M → E) (start : M) (stepped : M → ℕ → M) (step : E → ℕ → E) (steps : (x : M) (tags : ℕ) → step (put x) tags ≡ put (stepped x tags)) where
  -- what is near the start stands on that side
  on_side : {n : ℕ} {m : E} → Near (put start) step n m → (x : M) × (m ≡ put x) × Near start stepped n x
  on_side at_start = (start, refl, at_start)
  on_side (one_more o tags h) = let a = on_side o in (stepped a.0 tags, ap (λ z. step z tags) a.1 ∙ steps a.0 tags, one_more a.2 tags h)

-- and compared as without it
module _ {M E : Type 0} (put : M → E) (start : M) (stepped : M → ℕ → M) (compared : M → M → Ordering) (step : E → ℕ → E) (compare : E → E → Ordering) (steps : (x : M) (tags : ℕ) → step (put x) tags ≡ put (stepped x tags)) (compares : (x y : M) → compare (put x) (put y) ≡ compared x y) where
  there : {n : ℕ} {m : E} → Near (put start) step n m → (x : M) × (m ≡ put x) × Near start stepped n x
  there near = on_side put start stepped step steps near

  told : {a b : E} {x y : M} → a ≡ put x → b ≡ put y → compare a b ≡ compared x y
  told {b = b} {x = x} {y = y} p q = ap (λ z. compare z b) p ∙ ap (compare (put x)) q ∙ compares x y

  stepped_there : {a : E} {x : M} (tags : ℕ) → a ≡ put x → step a tags ≡ put (stepped x tags)
  stepped_there {x = x} tags p = ap (λ z. step z tags) p ∙ steps x tags

  pub side_law : Lawful start stepped compared → Lawful (put start) step compare
  side_law law = record {
    swapped = λ oa ob. let a = there oa in let b = there ob in told b.1 a.1 ∙ law.swapped a.2 b.2 ∙ sym (ap ordering_reverse (told a.1 b.1));
    transitive = λ oa ob oc g h.
        let a = there oa in
        let b = there ob in
        let c = there oc in
        ap is_ge (told a.1 c.1) ∙ law.transitive a.2 b.2 c.2 (sym (ap is_ge (told a.1 b.1)) ∙ g) (sym (ap is_ge (told b.1 c.1)) ∙ h);
    same_step = λ oa ob tags h. let a = there oa in let b = there ob in told (stepped_there tags a.1) (stepped_there tags b.1) ∙ law.same_step a.2 b.2 tags h ∙ sym (told a.1 b.1);
  }

pub either_law : {Q R M N : Type 0} {start : Q → M} {stepped : Q → M → ℕ → M} {compared : Q → M → M → Ordering} {start' : R → N} {stepped' : R → N → ℕ → N} {compared' : R → N → N → Ordering}
    → ((q : Q) → Lawful (start q) (stepped q) (compared q)) → ((r : R) → Lawful (start' r) (stepped' r) (compared' r))
    → (s : Either Q R) → Lawful (map_either start start' s) (step_either stepped stepped' s) (compare_either compared compared' s)
either_law {start = start} {stepped = stepped} {compared = compared} {stepped' = stepped'} {compared' = compared'} f g (Left q) =
    side_law Left (start q) (stepped q) (compared q) (step_either stepped stepped' (Left q)) (compare_either compared compared' (Left q)) (λ x tags. refl) (λ x y. refl) (f q)
either_law {stepped = stepped} {compared = compared} {start' = start'} {stepped' = stepped'} {compared' = compared'} f g (Right r) =
    side_law Right (start' r) (stepped' r) (compared' r) (step_either stepped stepped' (Right r)) (compare_either compared compared' (Right r)) (λ x tags. refl) (λ x y. refl) (g r)

-- what is near the start of a ranking on one side is a measure of that ranking, near its start
module _ {Q R M N : Type 0} (start : Q → M) (stepped : Q → M → ℕ → M) (start' : R → N) (stepped' : R → N → ℕ → N) where
  pub near_left : {s : Either Q R} {n : ℕ} {m : Either M N} (q : Q) (x : M) → s ≡ Left q → m ≡ Left x → Near (map_either start start' s) (step_either stepped stepped' s) n m → Near (start q) (stepped q) n x
  near_left {n = n} q x is at near =
      let side = on_side Left (start q) (stepped q) (step_either stepped stepped' (Left q)) (λ y tags. refl) (rw (is, at) at near) in
      let P : Either M N → Type 0 = λ z. elim z [ Left y ↦ Near (start q) (stepped q) n y | Right y ↦ Unit {0} ] in
      subst P (sym side.1) side.2

  pub near_right : {s : Either Q R} {n : ℕ} {m : Either M N} (r : R) (x : N) → s ≡ Right r → m ≡ Right x → Near (map_either start start' s) (step_either stepped stepped' s) n m → Near (start' r) (stepped' r) n x
  near_right {n = n} r x is at near =
      let side = on_side Right (start' r) (stepped' r) (step_either stepped stepped' (Right r)) (λ y tags. refl) (rw (is, at) at near) in
      let P : Either M N → Type 0 = λ z. elim z [ Left y ↦ Unit {0} | Right y ↦ Near (start' r) (stepped' r) n y ] in
      subst P (sym side.1) side.2
