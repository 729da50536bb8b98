-- What a pattern reads of a line, by checks that compute: each goes through all the stretches of the line.
use Rattle.std.proofs.Common.{◌≡◌, ℕ, zero, suc, ◌+◌, ◌-◌, ◌<◌, ◌≤◌, Bool, true, false, cond, not, ◌&&◌, ◌||◌, eqb, ltb, leb, List, length, get_or, refl, inl, inr, arith, ltb-true, eqb-true, le-leb, leb-true}
use Rattle.std.proofs.lemmas.Bool.{and_from, and_parts, or_cases}
use borrow.Author.Tests.{not-true, both_ways}
use Rattle.automaton.specs.Stretches.{Ahead, Longest, NoneReads, Covered, MarkedRight}
use Rattle.pattern.specs.Expressions.{Expr}
use Rattle.pattern.specs.Positions.{size, numbered}
use Rattle.shelf.specs.Matching.{stretch, Reads}
use Rattle.examples.proofs.Bounded.{every, some, of_every, to_some, of_some}
use Rattle.examples.proofs.Matcher.{matches, word_of, of_word}

-- the stretch l to r reads
abbrev pub reads : {S : Type 0} → (ℕ → S → Bool) → Expr → List S → ℕ → ℕ → Bool
reads admits e line l r = matches e (1 + size e) admits (λ _. true) (stretch line l r)

-- the stretch from a to b is longer than the one from l to r, or as long and no further right
abbrev pub is_ahead : ℕ → ℕ → ℕ → ℕ → Bool
is_ahead a b l r = ltb (r - l) (b - a) || (eqb (r - l) (b - a) && leb a l)

-- every stretch of the line passes, or does not read
abbrev pub all_reading : {S : Type 0} → (ℕ → S → Bool) → Expr → List S → (ℕ → ℕ → Bool) → Bool
all_reading admits e line passes = every (suc (length line)) (λ r. every (suc r) (λ l. passes l r || not (reads admits e line l r)))

abbrev pub is_longest : {S : Type 0} → (ℕ → S → Bool) → Expr → List S → ℕ → ℕ → Bool
is_longest admits e line a b =
    leb a b && (leb b (length line) && (reads admits e line a b && all_reading admits e line (is_ahead a b)))

abbrev pub none_reads : {S : Type 0} → (ℕ → S → Bool) → Expr → List S → Bool
none_reads admits e line = all_reading admits e line (λ _ _. false)

-- some stretch that reads has the symbol i; its last symbol is k
abbrev pub is_covered : {S : Type 0} → (ℕ → S → Bool) → Expr → List S → ℕ → Bool
is_covered admits e line i = some (suc i) (λ l. some (length line) (λ k. leb i k && reads admits e line l (suc k)))

abbrev pub marked_right : {S : Type 0} → (ℕ → S → Bool) → Expr → List S → ℕ → ℕ → Bool
marked_right admits e line i mark = cond (is_covered admits e line i) (eqb mark 1) (eqb mark 0)

abbrev pub all_marked_right : {S : Type 0} → (ℕ → S → Bool) → Expr → List S → List ℕ → Bool
all_marked_right admits e line marks = every (length line) (λ i. marked_right admits e line i (get_or marks i 0))

-- each check is right, of an expression whose tests are numbered from 1 on
module _ {S : Type 0} (admits : ℕ → S → Bool) (e : Expr) (in_order : numbered e 1 ≡ true) (line : List S) where
  to_reads : (l r : ℕ) → l ≤ r → r ≤ length line → reads admits e line l r ≡ true → Reads admits e line l r
  to_reads l r ordered within h =
      let x = word_of e admits in_order (λ _. true) (stretch line l r) h in
      record { ordered = ordered; within = within; word = x.0; is_word = x.1; admitted = x.2 }

  of_reads : (l r : ℕ) → Reads admits e line l r → reads admits e line l r ≡ true
  of_reads l r x = of_word e admits in_order (λ _. true) x.word (stretch line l r) x.is_word x.admitted refl

  passed : (a b : Bool) → a || not b ≡ true → b ≡ true → a ≡ true
  passed a b h r = elim (or_cases a (not b) h) [ inl x ↦ x | inr y ↦ absurd (both_ways b (not-true b y) r) ]

  of_all : (passes : ℕ → ℕ → Bool) → all_reading admits e line passes ≡ true → (l r : ℕ) → Reads admits e line l r → passes l r ≡ true
  of_all passes h l r x =
      let ordered : l ≤ r = x.ordered in
      let within : r ≤ length line = x.within in
      let a = of_every (suc (length line)) (λ r. every (suc r) (λ l. passes l r || not (reads admits e line l r))) h r (omega arith) in
      let b = of_every (suc r) (λ l. passes l r || not (reads admits e line l r)) a l (omega arith) in
      passed (passes l r) (reads admits e line l r) b (of_reads l r x)

  to_ahead : (a b l r : ℕ) → is_ahead a b l r ≡ true → Ahead (a, b) (l, r)
  to_ahead a b l r h =
      elim (or_cases (ltb (r - l) (b - a)) (eqb (r - l) (b - a) && leb a l) h) [
        | inl x ↦ inl (ltb-true (r - l) (b - a) x)
        | inr y ↦ (let z = and_parts (eqb (r - l) (b - a)) (leb a l) y in inr (eqb-true (r - l) (b - a) z.0, leb-true a l z.1))
      ]

  pub to_longest : (a b : ℕ) → is_longest admits e line a b ≡ true → Longest (Reads admits e line) (a, b)
  to_longest a b h =
      let x = and_parts (leb a b) (leb b (length line) && (reads admits e line a b && all_reading admits e line (is_ahead a b))) h in
      let y = and_parts (leb b (length line)) (reads admits e line a b && all_reading admits e line (is_ahead a b)) x.1 in
      let z = and_parts (reads admits e line a b) (all_reading admits e line (is_ahead a b)) y.1 in
      record {
        reads = to_reads a b (leb-true a b x.0) (leb-true b (length line) y.0) z.0;
        ahead = λ l r read. to_ahead a b l r (of_all (is_ahead a b) z.1 l r read);
      }

  pub to_none_reads : none_reads admits e line ≡ true → NoneReads (Reads admits e line)
  to_none_reads h l r read = both_ways false refl (of_all (λ _ _. false) h l r read)

  to_covered : (i : ℕ) → is_covered admits e line i ≡ true → Covered (Reads admits e line) i
  to_covered i h =
      let x = of_some (suc i) (λ l. some (length line) (λ k. leb i k && reads admits e line l (suc k))) h in
      let l = x.0 in
      let y = of_some (length line) (λ k. leb i k && reads admits e line l (suc k)) x.2 in
      let k = y.0 in
      let z = and_parts (leb i k) (reads admits e line l (suc k)) y.2 in
      let from : l < suc i = x.1 in
      let to : i ≤ k = leb-true i k z.0 in
      let within : k < length line = y.1 in
      record { left = l; right = suc k; from = omega arith; to = omega arith; reads = to_reads l (suc k) (omega arith) (omega arith) z.1 }

  covered_by : (i l r : ℕ) → l ≤ i → i < r → Reads admits e line l r → is_covered admits e line i ≡ true
  covered_by i l zero from to read = let z : ⊥ = omega arith in elim z [ ]
  covered_by i l (suc k) from to read =
      let within : suc k ≤ length line = read.within in
      to_some (suc i) (λ l. some (length line) (λ k. leb i k && reads admits e line l (suc k))) l (omega arith)
      (to_some (length line) (λ k. leb i k && reads admits e line l (suc k)) k (omega arith)
      (and_from (leb i k) (reads admits e line l (suc k)) (le-leb i k (omega arith)) (of_reads l (suc k) read)))

  of_covered : (i : ℕ) → Covered (Reads admits e line) i → is_covered admits e line i ≡ true
  of_covered i x = covered_by i x.left x.right x.from x.to x.reads

  to_marked_right : (i mark : ℕ) → marked_right admits e line i mark ≡ true → MarkedRight (Reads admits e line) i mark
  to_marked_right i mark h = by (is_covered admits e line i) refl h
    where
      by : (b : Bool) → is_covered admits e line i ≡ b → cond b (eqb mark 1) (eqb mark 0) ≡ true → MarkedRight (Reads admits e line) i mark
      by true is h = inl (eqb-true mark 1 h, to_covered i is)
      by false is h = inr (eqb-true mark 0 h, λ x. both_ways (is_covered admits e line i) is (of_covered i x))

  pub to_marks : (marks : List ℕ) → all_marked_right admits e line marks ≡ true → (i : ℕ) → i < length line → MarkedRight (Reads admits e line) i (get_or marks i 0)
  to_marks marks h i below =
      to_marked_right i (get_or marks i 0) (of_every (length line) (λ i. marked_right admits e line i (get_or marks i 0)) h i below)
