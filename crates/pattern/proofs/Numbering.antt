-- The tests of what is read are numbered from left to right.
use Rattle.std.proofs.Common.{◌≡◌, ℕ, ◌+◌, true, ◌&&◌, [], ◌∷◌, ◌++◌, length, sym, refl, ap, ◌∙◌, subst, append-nil, arith, length-append}
use Rattle.std.proofs.lemmas.Bool.{and_from, eq-eqb}
use Rattle.pattern.specs.declared.token.Kind.{Kind}
use Rattle.pattern.specs.Expressions.{Expr}
use Rattle.pattern.specs.Tokens.{code_of}
use Rattle.pattern.specs.Positions.{size, numbered}
use Rattle.pattern.specs.Descent.{Source, kind_at, codes, Out, good, bad, Want, group, branch, item, unit, branches, items, repeats, Parses, group_then, group_bad, branches_end, branches_or, branches_bad, branch_then, branch_bad, items_end, items_more, items_bad, item_then, item_bad, unit_test, unit_tests, unit_misread, unit_deep, unit_group, unit_group_bad, unit_group_loose, unit_tags, unit_tag, unit_tag_bad, unit_tag_loose, unit_none, repeats_end, repeats_star, repeats_star_tag, repeats_plus, repeats_plus_tag, repeats_opt}
use Rattle.pattern.proofs.Steps.{codes_next}

-- how many tests stand before a place
abbrev before : Source → ℕ → ℕ
before s i = length (codes s i)

same : (s : Source) (i : ℕ) (k : Kind) → kind_at s i ≡ k → code_of k ≡ [] → before s (i + 1) ≡ before s i
same s i k is nc = ap length (codes_next s i k is ∙ ap (λ l. codes s i ++ l) nc ∙ append-nil (codes s i))

-- an expression whose first test has the number low, and whose last one stands before the place j
pub record Run (s : Source) (e : Expr) (low j : ℕ) : Type 0 where
  pub in_order : numbered e low ≡ true
  pub up_to : low + size e ≡ before s j + 1

abbrev Numbers : Source → Want → ℕ → Out → Type 0
Numbers s (group d) i (good e j) = Run s e (before s i + 1) j
Numbers s (branch d) i (good e j) = Run s e (before s i + 1) j
Numbers s (item d) i (good e j) = Run s e (before s i + 1) j
Numbers s (unit d) i (good e j) = Run s e (before s i + 1) j
Numbers s (branches d e₀) i (good e j) = (low : ℕ) → Run s e₀ low i → Run s e low j
Numbers s (items d e₀) i (good e j) = (low : ℕ) → Run s e₀ low i → Run s e low j
Numbers s (repeats e₀) i (good e j) = (low : ℕ) → Run s e₀ low i → Run s e low j
Numbers s (group d) i (bad f) = Unit {0}
Numbers s (branch d) i (bad f) = Unit {0}
Numbers s (item d) i (bad f) = Unit {0}
Numbers s (unit d) i (bad f) = Unit {0}
Numbers s (branches d e₀) i (bad f) = Unit {0}
Numbers s (items d e₀) i (bad f) = Unit {0}
Numbers s (repeats e₀) i (bad f) = Unit {0}

moved : (s : Source) (e : Expr) (low low' j j' : ℕ) → low ≡ low' → before s j' ≡ before s j → Run s e low j → Run s e low' j'
moved s e low low' j j' p q r = record { in_order = subst (λ n. numbered e n ≡ true) p r.in_order; up_to = omega (arith, r.up_to) }

-- one part after another
two : (s : Source) (e f : Expr) (low i j : ℕ) → Run s e low i → Run s f (before s i + 1) j → (numbered e low && numbered f (low + size e) ≡ true) × (low + (size e + size f) ≡ before s j + 1)
two s e f low i j a b =
    (and_from (numbered e low) (numbered f (low + size e)) a.in_order (subst (λ n. numbered f n ≡ true) (sym a.up_to) b.in_order), omega (arith, a.up_to, b.up_to))

pub numbers : {s : Source} {w : Want} {i : ℕ} {o : Out} → Parses s w i o → Numbers s w i o
numbers (group_then {o = good e j} d r) = numbers r _ (numbers d)
numbers (group_then {o = bad f} d r) = tt
numbers (group_bad d) = tt
numbers (branches_end h) = λ low r. r
numbers {s = s} (branches_or {e = e} {f = f} {i = i} {j = j} {o = good g k} h d r) = λ low a.
    let b = moved s f _ (before s i + 1) j j (ap (λ n. n + 1) (same s i Kind.Or h refl)) refl (numbers d) in
    let c = two s e f low i j a b in
    numbers r low (record { in_order = c.0; up_to = c.1 })
numbers (branches_or {o = bad f} h d r) = tt
numbers (branches_bad h d) = tt
numbers (branch_then {o = good e j} d r) = numbers r _ (numbers d)
numbers (branch_then {o = bad f} d r) = tt
numbers (branch_bad d) = tt
numbers (items_end h) = λ low r. r
numbers {s = s} (items_more {e = e} {f = f} {i = i} {j = j} {o = good g k} h d r) = λ low a.
    let c = two s e f low i j a (numbers d) in
    numbers r low (record { in_order = c.0; up_to = c.1 })
numbers (items_more {o = bad f} h d r) = tt
numbers (items_bad h d) = tt
numbers (item_then {o = good e j} d r) = numbers r _ (numbers d)
numbers (item_then {o = bad f} d r) = tt
numbers (item_bad d) = tt
numbers {s = s} (unit_test {i = i} {c = c} h n) =
    record { in_order = eq-eqb _ _ refl; up_to = sym (ap (λ l. length l + 1) (codes_next s i _ h) ∙ ap (λ n. n + 1) (length-append (codes s i) (c ∷ []))) }
numbers (unit_tests h n) = tt
numbers (unit_misread h) = tt
numbers (unit_deep h n) = tt
numbers {s = s} (unit_group {i = i} {e = e} {j = j} h n d m) = moved s e _ _ j (j + 1) (ap (λ x. x + 1) (same s i Kind.Open h refl)) (same s j Kind.Close m refl) (numbers d)
numbers (unit_group_bad h n d) = tt
numbers (unit_group_loose h n d m) = tt
numbers (unit_tags h n m) = tt
numbers {s = s} (unit_tag {i = i} {e = e} {j = j} h n g d m) =
    let a = moved s e _ (before s i + 1) j (j + 1) (ap (λ x. x + 1) (same s i Kind.OpenTag h refl)) (same s j Kind.CloseTag m refl) (numbers d) in
    record { in_order = a.in_order; up_to = a.up_to }
numbers (unit_tag_bad h n g d) = tt
numbers (unit_tag_loose h n g d m) = tt
numbers (unit_none h) = tt
numbers (repeats_end h) = λ low r. r
numbers {s = s} (repeats_star {e = e} {i = i} {o = good g k} h n r) = λ low a. let b = moved s e low low i (i + 1) refl (same s i Kind.Star h refl) a in numbers r low (record { in_order = b.in_order; up_to = b.up_to })
numbers (repeats_star {o = bad f} h n r) = tt
numbers (repeats_star_tag h n) = tt
numbers {s = s} (repeats_plus {e = e} {i = i} {o = good g k} h n r) = λ low a. let b = moved s e low low i (i + 1) refl (same s i Kind.Plus h refl) a in numbers r low (record { in_order = b.in_order; up_to = b.up_to })
numbers (repeats_plus {o = bad f} h n r) = tt
numbers (repeats_plus_tag h n) = tt
numbers {s = s} (repeats_opt {e = e} {i = i} {o = good g k} h r) = λ low a. let b = moved s e low low i (i + 1) refl (same s i Kind.Opt h refl) a in numbers r low (record { in_order = b.in_order; up_to = b.up_to })
numbers (repeats_opt {o = bad f} h r) = tt
