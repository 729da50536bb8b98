-- Which word of a stretch is the best, and which parts it gives to the tags, by checks that compute.
use Rattle.std.proofs.Common.{◌≡◌, ℕ, zero, suc, ◌+◌, ◌-◌, ◌≤◌, Bool, true, false, not, ◌&&◌, ◌||◌, eqb, ltb, leb, List, length, get_or, Some, None, Option, refl, inl, inr, ap, subst, arith, ltb-true, eqb-true, leb-true}
use Rattle.std.specs.Prelude.{bytes_eq}
use Rattle.std.specs.declared.cmp.Ordering.TheVariants.{Less, Equal, Greater}
use Rattle.std.specs.declared.cmp.Ordering.{Ordering}
use Rattle.std.proofs.lemmas.Bool.{and_parts, or_cases}
use Rattle.std.proofs.lemmas.Slice.Eq.{bytes_eq-Decides}
use borrow.Author.Tests.{not-true, both_ways}
use Rattle.parts.specs.Parts.{Spans, PartAlong, PartsAlong}
use Rattle.pattern.specs.Expressions.{Expr}
use Rattle.pattern.specs.Positions.{size, numbered}
use Rattle.sheet.specs.declared.Part.{Part}
use Rattle.sheet.specs.Entries.{entry}
use Rattle.shelf.specs.Matching.{stretch}
use Rattle.shelf.specs.Splits.{Trail}
use Rattle.splitting.specs.Trails.{Before, Over, Best}
use Rattle.examples.proofs.Bounded.{every, some, of_every, of_some}
use Rattle.examples.proofs.Matcher.{matches, word_of, of_word}

-- t and u have the same number at the place j, or j is not past the place k
abbrev pub same_after : List ℕ → List ℕ → ℕ → ℕ → Bool
same_after t u k j = leb j k || eqb (get_or t j 0) (get_or u j 0)

-- t comes before u in the tie order
abbrev pub is_before : List ℕ → List ℕ → Bool
is_before t u = some (length t) (λ k. ltb (get_or t k 0) (get_or u k 0) && every (length t) (same_after t u k))

-- by how u compares with t, whether t is the better one, where `before` tells whether t comes before u
abbrev pub is_better : Ordering → Bool → Bool
is_better Less before = true
is_better Equal before = before
is_better Greater before = false

-- u is t, or ranks lower, or ranks equal and comes later
abbrev pub is_over : {M : Type 0} → (List ℕ → M) → (M → M → Ordering) → List ℕ → List ℕ → Bool
is_over rank compared t u = bytes_eq u t || is_better (compared (rank u) (rank t)) (is_before t u)

-- the word admits the symbols, and it is over every word that admits them
abbrev pub is_best : {S M : Type 0} → (List ℕ → M) → (M → M → Ordering) → (ℕ → S → Bool) → Expr → List S → List ℕ → Bool
is_best rank compared admits e string word =
    matches e (1 + size e) admits (λ w. bytes_eq w word) string && not (matches e (1 + size e) admits (λ w. not (is_over rank compared word w)) string)

to_before : (t u : List ℕ) → is_before t u ≡ true → Before t u
to_before t u h =
    let x = of_some (length t) (λ k. ltb (get_or t k 0) (get_or u k 0) && every (length t) (same_after t u k)) h in
    let k = x.0 in
    let a = and_parts (ltb (get_or t k 0) (get_or u k 0)) (every (length t) (same_after t u k)) x.2 in
    record {
      place = k;
      within = x.1;
      lower = ltb-true (get_or t k 0) (get_or u k 0) a.0;
      after = λ j later within.
          elim (or_cases (leb j k) (eqb (get_or t j 0) (get_or u j 0)) (of_every (length t) (same_after t u k) a.1 j within)) [
            | inl b ↦ (let c : j ≤ k = leb-true j k b in absurd (omega arith))
            | inr b ↦ eqb-true (get_or t j 0) (get_or u j 0) b
          ];
    }

module _ {M : Type 0} (rank : List ℕ → M) (compared : M → M → Ordering) where
  by_order : (t u : List ℕ) (o : Ordering) → compared (rank u) (rank t) ≡ o → is_better o (is_before t u) ≡ true → Over rank compared t u
  by_order t u Less is h = Over.higher is
  by_order t u Equal is h = Over.earlier is (to_before t u h)
  by_order t u Greater is h = absurd (both_ways false refl h)

  to_over : (t u : List ℕ) → is_over rank compared t u ≡ true → Over rank compared t u
  to_over t u h =
      elim (or_cases (bytes_eq u t) (is_better (compared (rank u) (rank t)) (is_before t u)) h) [
        | inl a ↦ Over.same ((bytes_eq-Decides u t).0 a)
        | inr b ↦ by_order t u (compared (rank u) (rank t)) refl b
      ]

  -- the check is right, of an expression whose tests are numbered from 1 on
  pub to_best : {S : Type 0} (admits : ℕ → S → Bool) (e : Expr) → numbered e 1 ≡ true → (line : List S) (l r : ℕ) (word : List ℕ) → is_best rank compared admits e (stretch line l r) word ≡ true → Best (Trail admits e line l r) rank compared word
  to_best admits e in_order line l r word h =
      let IsTrail : List ℕ → Type 0 = Trail admits e line l r in
      let others : List ℕ → Bool = λ w. not (is_over rank compared word w) in
      let a = and_parts (matches e (1 + size e) admits (λ w. bytes_eq w word) (stretch line l r)) (not (matches e (1 + size e) admits others (stretch line l r))) h in
      let x = word_of e admits in_order (λ w. bytes_eq w word) (stretch line l r) a.0 in
      record {
        trail = subst IsTrail ((bytes_eq-Decides x.0 word).0 x.3) (record { is_word = x.1; admitted = x.2 });
        over = λ u trail. by u trail (is_over rank compared word u) refl (not-true (matches e (1 + size e) admits others (stretch line l r)) a.1);
      }
    where
      by : (u : List ℕ) → Trail admits e line l r u → (b : Bool) → is_over rank compared word u ≡ b → matches e (1 + size e) admits (λ w. not (is_over rank compared word w)) (stretch line l r) ≡ false → Over rank compared word u
      by u trail true is none = to_over word u is
      by u trail false is none = absurd (both_ways _ none (of_word e admits in_order (λ w. not (is_over rank compared word w)) u (stretch line l r) trail.is_word trail.admitted (ap not is)))

-- the test at the place k is not inside, or its symbol is one of the part
abbrev pub is_within : (ℕ → Bool) → ℕ → List ℕ → Part → ℕ → Bool
is_within inside left word part k = not (inside (get_or word k 0)) || (leb part.left (left + k) && ltb (left + k) part.right)

-- of the tests that are inside a tag: the part is that of the tag
abbrev pub is_part : (ℕ → Bool) → ℕ → List ℕ → Option Part → Bool
is_part inside left word None = every (length word) (λ k. not (inside (get_or word k 0)))
is_part inside left word (Some part) =
    (leb left part.left && (ltb part.left part.right && leb part.right (left + length word)))
    && ((inside (get_or word (part.left - left) 0) && inside (get_or word (part.right - 1 - left) 0)) && every (length word) (is_within inside left word part))

-- there are eight entries, and each is the part of its tag
abbrev pub are_parts : (ℕ → ℕ → Bool) → ℕ → List ℕ → List (Option Part) → Bool
are_parts inside left word entries = eqb (length entries) 8 && every 8 (λ k. is_part (inside (suc k)) left word (entry entries (suc k)))

to_spans : (inside : ℕ → Bool) (left : ℕ) (word : List ℕ) (part : Part) → is_part inside left word (Some part) ≡ true → Spans inside left word part
to_spans inside left word part h =
    let a = and_parts (leb left part.left && (ltb part.left part.right && leb part.right (left + length word))) ((inside (get_or word (part.left - left) 0) && inside (get_or word (part.right - 1 - left) 0)) && every (length word) (is_within inside left word part)) h in
    let b = and_parts (leb left part.left) (ltb part.left part.right && leb part.right (left + length word)) a.0 in
    let c = and_parts (ltb part.left part.right) (leb part.right (left + length word)) b.1 in
    let d = and_parts (inside (get_or word (part.left - left) 0) && inside (get_or word (part.right - 1 - left) 0)) (every (length word) (is_within inside left word part)) a.1 in
    let f = and_parts (inside (get_or word (part.left - left) 0)) (inside (get_or word (part.right - 1 - left) 0)) d.0 in
    record {
      from = leb-true left part.left b.0;
      some = ltb-true part.left part.right c.0;
      to = leb-true part.right (left + length word) c.1;
      first = f.0;
      last = f.1;
      within = λ k below is.
          elim (or_cases (not (inside (get_or word k 0))) (leb part.left (left + k) && ltb (left + k) part.right) (of_every (length word) (is_within inside left word part) d.1 k below)) [
            | inl out ↦ absurd (both_ways (inside (get_or word k 0)) (not-true (inside (get_or word k 0)) out) is)
            | inr y ↦ (let g = and_parts (leb part.left (left + k)) (ltb (left + k) part.right) y in (leb-true part.left (left + k) g.0, ltb-true (left + k) part.right g.1))
          ];
    }

to_part : (inside : ℕ → Bool) (left : ℕ) (word : List ℕ) (part : Option Part) → is_part inside left word part ≡ true → PartAlong inside left word part
to_part inside left word None h = λ k below. not-true (inside (get_or word k 0)) (of_every (length word) (λ k. not (inside (get_or word k 0))) h k below)
to_part inside left word (Some part) h = to_spans inside left word part h

pub to_parts : (inside : ℕ → ℕ → Bool) (left : ℕ) (word : List ℕ) (entries : List (Option Part)) → are_parts inside left word entries ≡ true → PartsAlong inside left word entries
to_parts inside left word entries h =
    let a = and_parts (eqb (length entries) 8) (every 8 (λ k. is_part (inside (suc k)) left word (entry entries (suc k)))) h in
    record { eight = eqb-true (length entries) 8 a.0; each = each a.1 }
  where
    each : every 8 (λ k. is_part (inside (suc k)) left word (entry entries (suc k))) ≡ true → (t : ℕ) → 1 ≤ t → t ≤ 8 → PartAlong (inside t) left word (entry entries t)
    each every_one zero low high = absurd (omega arith)
    each every_one (suc k) low high = to_part (inside (suc k)) left word (entry entries (suc k)) (of_every 8 (λ k. is_part (inside (suc k)) left word (entry entries (suc k))) every_one k (omega arith))
