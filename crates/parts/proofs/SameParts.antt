-- Two ways to say which tests are inside a tag give the same parts, where they agree on the word's tests.
use Rattle.std.proofs.Common.{◌≡◌, ℕ, ◌-◌, ◌<◌, ◌≤◌, Bool, List, length, get_or, Some, None, Option, sym, ◌∙◌, arith}
use Rattle.sheet.specs.declared.Part.{Part}
use Rattle.sheet.specs.Entries.{entry}
use Rattle.parts.specs.Parts.{PartAlong, PartsAlong}

same_part : (inside other : ℕ → Bool) (left : ℕ) (word : List ℕ) (part : Option Part) → ((k : ℕ) → k < length word → inside (get_or word k 0) ≡ other (get_or word k 0)) → PartAlong inside left word part → PartAlong other left word part
same_part inside other left word None h a = λ k l. sym (h k l) ∙ a k l
same_part inside other left word (Some part) h a =
    record {
      from = a.from;
      some = a.some;
      to = a.to;
      first = sym (h (part.left - left) (omega (arith, a.from, a.some, a.to))) ∙ a.first;
      last = sym (h (part.right - 1 - left) (omega (arith, a.from, a.some, a.to))) ∙ a.last;
      within = λ k l is. a.within k l (h k l ∙ is);
    }

pub same_parts : (inside other : ℕ → ℕ → Bool) (left : ℕ) (word : List ℕ) (entries : List (Option Part)) → ((t k : ℕ) → 1 ≤ t → t ≤ 8 → k < length word → inside t (get_or word k 0) ≡ other t (get_or word k 0)) → PartsAlong inside left word entries → PartsAlong other left word entries
same_parts inside other left word entries h a = record {
  eight = a.eight;
  each = λ t low high. same_part (inside t) (other t) left word (entry entries t) (λ k l. h t k low high l) (a.each t low high);
}
