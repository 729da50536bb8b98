-- The part of a tag, from symbol to symbol.
use Rattle.std.proofs.Common.{◌≡◌, ℕ, ◌+◌, ◌-◌, ◌<◌, ◌≤◌, Bool, true, false, List, length, get_or, Some, None, Option, sym, ◌∙◌, subst, inl, inr, true≢false, arith}
use Rattle.std.proofs.lemmas.Bool.{cases_lt}
use Rattle.std.specs.Option.{option_map_or}
use Rattle.sheet.specs.declared.Part.{Part}
use Rattle.parts.specs.Parts.{PartAlong}

-- the part spans those of the first n symbols whose test is inside
pub record SpansUpTo (inside : ℕ → Bool) (left : ℕ) (word : List ℕ) (n : ℕ) (part : Part) : Type 0 where
  pub from : left ≤ part.left
  pub some : part.left < part.right
  pub to : part.right ≤ left + n
  pub first : inside (get_or word (part.left - left) 0) ≡ true
  pub last : inside (get_or word (part.right - 1 - left) 0) ≡ true
  pub within : (k : ℕ) → k < n → inside (get_or word k 0) ≡ true → (part.left ≤ left + k) × (left + k < part.right)

abbrev pub PartUpTo : (ℕ → Bool) → ℕ → List ℕ → ℕ → Option Part → Type 0
PartUpTo inside left word n None = (k : ℕ) → k < n → inside (get_or word k 0) ≡ false
PartUpTo inside left word n (Some part) = SpansUpTo inside left word n part

module _ (inside : ℕ → Bool) (left : ℕ) (word : List ℕ) where
  pub none_yet : PartUpTo inside left word 0 None
  none_yet = λ k h. absurd (omega arith)

  -- one symbol more, whose test is outside
  pub passed : (n : ℕ) (part : Option Part) → PartUpTo inside left word n part → inside (get_or word n 0) ≡ false → PartUpTo inside left word (n + 1) part
  passed n None a out = λ k h. elim (cases_lt k n) [
    | inl l ↦ a k l
    | inr l ↦ (let is : n ≡ k = omega arith in subst (λ j. inside (get_or word j 0) ≡ false) is out)
  ]
  passed n (Some part) a out =
      record {
        from = a.from;
        some = a.some;
        to = omega (arith, a.to);
        first = a.first;
        last = a.last;
        within = λ k h is. elim (cases_lt k n) [
          | inl l ↦ a.within k l is
          | inr l ↦ (let same : n ≡ k = omega arith in absurd (true≢false (sym is ∙ subst (λ j. inside (get_or word j 0) ≡ false) same out)))
        ];
      }

  -- one symbol more, whose test is inside
  begun : (n : ℕ) → PartUpTo inside left word n None → inside (get_or word n 0) ≡ true → PartUpTo inside left word (n + 1) (Some (record { left = left + n; right = left + n + 1 }))
  begun n a here =
      record {
        from = omega arith;
        some = omega arith;
        to = omega arith;
        first = subst (λ j. inside (get_or word j 0) ≡ true) (omega arith) here;
        last = subst (λ j. inside (get_or word j 0) ≡ true) (omega arith) here;
        within = λ k h is. elim (cases_lt k n) [
          | inl l ↦ absurd (true≢false (sym is ∙ a k l))
          | inr l ↦ (omega arith, omega arith)
        ];
      }

  grown : (n : ℕ) (part : Part) → PartUpTo inside left word n (Some part) → inside (get_or word n 0) ≡ true → PartUpTo inside left word (n + 1) (Some (record { left = part.left; right = left + n + 1 }))
  grown n part a here =
      record {
        from = a.from;
        some = omega (arith, a.some, a.to);
        to = omega arith;
        first = a.first;
        last = subst (λ j. inside (get_or word j 0) ≡ true) (omega arith) here;
        within = λ k h is. elim (cases_lt k n) [
          | inl l ↦ (let b = a.within k l is in (b.0, omega (arith, b.1, a.to)))
          | inr l ↦ (omega (arith, a.some, a.to), omega arith)
        ];
      }

  pub widened : (n : ℕ) (part : Option Part) → PartUpTo inside left word n part → inside (get_or word n 0) ≡ true → PartUpTo inside left word (n + 1) (Some (record { left = option_map_or (λ p. p.left) part (left + n); right = left + n + 1 }))
  widened n None a here = begun n a here
  widened n (Some part) a here = grown n part a here

  pub whole : (part : Option Part) → PartUpTo inside left word (length word) part → PartAlong inside left word part
  whole None a = a
  whole (Some part) a = record { from = a.from; some = a.some; to = a.to; first = a.first; last = a.last; within = a.within }
