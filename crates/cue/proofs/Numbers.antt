-- A number that is read is one that is written, and the other way round.
use Rattle.std.proofs.Common.{◌≡◌, ℕ, ◌+◌, ◌-◌, ◌*◌, ◌/◌, ◌%◌, ◌<◌, ◌≤◌, Bool, true, false, cond, ◌&&◌, ◌||◌, eqb, ltb, leb, List, [], ◌∷◌, ◌++◌, Ok, Err, Result, sym, refl, ap, ◌∙◌, subst, ⊎_elim, arith}
use Rattle.std.proofs.lemmas.Bool.{cases_lt, cond-true, cond-false, lt-ltb, le-ltb, ltb-true, ltb-false, ne_eqb, eqb-false, lt-leb, le-leb, leb-true, leb-false, or_parts, and_parts, and_from}
use Rattle.cue.specs.declared.refusal.Fault.{Fault}
use Rattle.cue.specs.Leb128.{leb128}
use Rattle.cue.specs.declared.refusal.Fault.TheVariants.{LongNumber, BrokenRule}
use Rattle.cue.specs.Cues.{first_number, second_byte, in_limits, number_within}
use Rattle.cue.proofs.Groups.{leb_small, leb_two}

-- a list of bytes
abbrev pub AllBytes : List ℕ → Type 0
AllBytes [] = Unit {0}
AllBytes (b ∷ bytes) = (b < 256) × AllBytes bytes

-- a number of the record that begins these bytes, and what is behind it
pub record Written (bytes : List ℕ) (x : ℕ × ℕ × List ℕ) : Type 0 where
  pub is : bytes ≡ leb128 x.0 ++ x.2
  pub small : x.0 < 16384
  pub rest : AllBytes x.2

-- a written number is read
pub number_read : (at v : ℕ) (rest : List ℕ) → v < 16384 → (behind : ℕ) × (first_number at (leb128 v ++ rest) ≡ Ok (v, behind, rest))
number_read at v rest h = ⊎_elim
    (λ few. (at + 1, ap (λ l. first_number at (l ++ rest)) (leb_small v few) ∙ cond-true _ _ _ (lt-ltb v 128 few)))
    (λ some.
    let low : 128 + v % 128 - 128 + 128 * (v / 128) ≡ v = omega arith in
    let short : (eqb (v / 128) 0 || leb 128 (v / 128)) ≡ false = ap (λ x. x || leb 128 (v / 128)) (ne_eqb (v / 128) 0 (λ z. omega (arith, z, some))) ∙ lt-leb 128 (v / 128) (omega (arith, h)) in
    (at + 2, ap (λ l. first_number at (l ++ rest)) (leb_two v some h) ∙ cond-false _ _ _ (le-ltb (128 + v % 128) 128 (omega arith)) ∙ cond-false _ _ _ short ∙ ap (λ n. Ok (n, at + 2, rest)) low))
    (cases_lt v 128)

pub number_read_within : (least most at v : ℕ) (rest : List ℕ) → v < 16384 → least ≤ v → v ≤ most → (behind : ℕ) × (number_within least most at (leb128 v ++ rest) ≡ Ok (v, behind, rest))
number_read_within least most at v rest h l m =
    let r = number_read at v rest h in
    (r.0, ap (in_limits least most at) r.1 ∙ cond-true _ _ _ (and_from (leb least v) (leb v most) (le-leb least v l) (le-leb v most m)))

pub ok_is : {X E : Type 0} {x y : X} → ◌≡◌ {A = Result X E} (Ok x) (Ok y) → x ≡ y
ok_is e = cc

pub err_not_ok : {X E : Type 0} {f : E} {x : X} → ◌≡◌ {A = Result X E} (Err f) (Ok x) → ⊥
err_not_ok e = let z : ◌≡◌ {A = ℕ} 0 1 = cc in omega (arith, z)

-- a number that is read was written
pub number_written : (at : ℕ) (bytes : List ℕ) (x : ℕ × ℕ × List ℕ) → AllBytes bytes → first_number at bytes ≡ Ok x → Written bytes x
number_written at [] x all e = absurd (err_not_ok e)
number_written at (b ∷ bytes) x all e = go (ltb b 128) refl e
  where
    second : (bytes : List ℕ) → AllBytes bytes → 128 ≤ b → second_byte at (b - 128) bytes ≡ Ok x → Written (b ∷ bytes) x
    second [] more h e = absurd (err_not_ok e)
    second (c ∷ rest) more h e = by (eqb c 0 || leb 128 c) refl e
      where
        by : (t : Bool) → (eqb c 0 || leb 128 c) ≡ t → cond t (Err (LongNumber at)) (Ok (b - 128 + 128 * c, at + 2, rest)) ≡ Ok x → Written (b ∷ (c ∷ rest)) x
        by true t e = absurd (err_not_ok e)
        by false t e =
            let p = or_parts (eqb c 0) (leb 128 c) t in
            let few = leb-false 128 c p.1 in
            let some : 0 < c = ⊎_elim (λ l. absurd (eqb-false c 0 p.0 (omega arith))) (λ l. l) (cases_lt c 1) in
            let n = b - 128 + 128 * c in
            let low : 128 + n % 128 ≡ b = omega (arith, h, all.0) in
            let high : n / 128 ≡ c = omega (arith, h, all.0) in
            subst (Written (b ∷ (c ∷ rest))) (ok_is e) (record {
              is = sym (ap (λ l. l ++ rest) (leb_two n (omega (arith, some)) (omega (arith, few, all.0)) ∙ ap (λ k. k ∷ (n / 128 ∷ [])) low ∙ ap (λ k. b ∷ (k ∷ [])) high));
              small = omega (arith, few, all.0);
              rest = more.1;
            })

    go : (t : Bool) → ltb b 128 ≡ t → cond t (Ok (b, at + 1, bytes)) (second_byte at (b - 128) bytes) ≡ Ok x → Written (b ∷ bytes) x
    go true t e =
        let few = ltb-true b 128 t in
        subst (Written (b ∷ bytes)) (ok_is e) (record { is = sym (ap (λ l. l ++ bytes) (leb_small b few)); small = omega (arith, few); rest = all.1 })
    go false t e = second bytes all.1 (ltb-false b 128 t) e

pub number_written_within : (least most at : ℕ) (bytes : List ℕ) (x : ℕ × ℕ × List ℕ) → AllBytes bytes → number_within least most at bytes ≡ Ok x → Written bytes x × (least ≤ x.0) × (x.0 ≤ most)
number_written_within least most at bytes x all e = go (first_number at bytes) refl e
  where
    go : (r : Result (ℕ × ℕ × List ℕ) Fault) → first_number at bytes ≡ r → in_limits least most at r ≡ Ok x → Written bytes x × (least ≤ x.0) × (x.0 ≤ most)
    go (Err f) r e = absurd (err_not_ok e)
    go (Ok y) r e = by (leb least y.0 && leb y.0 most) refl e
      where
        by : (t : Bool) → (leb least y.0 && leb y.0 most) ≡ t → cond t (Ok y) (Err (BrokenRule at)) ≡ Ok x → Written bytes x × (least ≤ x.0) × (x.0 ≤ most)
        by false t e = absurd (err_not_ok e)
        by true t e =
            let p = and_parts (leb least y.0) (leb y.0 most) t in
            subst (λ z. Written bytes z × (least ≤ z.0) × (z.0 ≤ most)) (ok_is e) (number_written at bytes y all r, leb-true least y.0 p.0, leb-true y.0 most p.1)
