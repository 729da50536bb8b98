-- From what the splitter finds to what the call answers.
use Rattle.std.proofs.Common.{◌≡◌, ℕ, suc, ◌+◌, ◌-◌, ◌<◌, ◌≤◌, Bool, cond, leb, List, length, get_or, take, drop, Ok, Err, Option, Result, Ordering, sym, refl, ap, ◌∙◌, subst, inl, inr, arith}
use Rattle.std.proofs.lemmas.Bool.{and_from, le-leb, lt-leb, cases_lt}
use Rattle.automaton.specs.declared.machine.Automaton.{Automaton}
use Rattle.automaton.specs.Bit.{bit}
use Rattle.parts.specs.Parts.{PartsAlong, tags_of, is_in}
use Rattle.parts.proofs.SameParts.{same_parts}
use Rattle.pattern.specs.declared.kept.Pattern.{Pattern}
use Rattle.pattern.specs.Expressions.{Expr, Syntax}
use Rattle.automaton.specs.Reads.{tests_of}
use Rattle.pattern.specs.Spelling.{HasWords}
use Rattle.pattern.specs.Tags.{inside, tag_set}
use Rattle.pattern.proofs.TagSets.{tag_set_bit}
use Rattle.sheet.specs.declared.Part.{Part}
use Rattle.splitting.specs.declared.Unsplit.{Unsplit}
use Rattle.splitting.specs.declared.Unsplit.TheVariants.{NoRoom, NoTrail}
use Rattle.splitting.specs.Trails.{BestTrail}
use Rattle.shelf.specs.declared.refusal.Refusal.{Refusal}
use Rattle.shelf.specs.declared.refusal.Refusal.TheVariants.{BufferTooShort, EndsMisfit}
use Rattle.shelf.specs.Matching.{stretch}
use Rattle.shelf.specs.Places.{standing}
use Rattle.shelf.specs.Refusals.{unsplit}
use Rattle.shelf.specs.Reports.{with_room}
use Rattle.shelf.specs.Splits.{SplitBy, for_split, asked_split}
use Rattle.shelf.proofs.Answering.{short_enough}
use Rattle.shelf.proofs.Bridging.{passes}
use Rattle.shelf.proofs.Wording.{test_at, tests_length, no_word, best_word}

-- ---- what is asked
-- a pattern that stands there, a line that is short enough, and two ends that are those of a stretch
pub rooms_asked : (places : List (Option Pattern)) (place symbols l r bytes measures : ℕ) (x : Syntax) → standing places place ≡ Ok x → symbols ≤ 160 → l ≤ r → r ≤ symbols
    → asked_split places place symbols l r bytes measures ≡ with_room (with_room (Ok x) (r - l) bytes) 128 measures
rooms_asked places place symbols l r bytes measures x is few ordered within =
    ap (λ p. for_split p symbols l r bytes measures) (short_enough places place symbols x is few)
    ∙ ap (λ b. with_room (with_room (cond b (Ok x) (Err EndsMisfit)) (r - l) bytes) 128 measures) (and_from (leb l r) (leb r symbols) (le-leb l r ordered) (le-leb r symbols within))

roomy : (x : Syntax) (n bytes measures : ℕ) → n ≤ bytes → 128 ≤ measures → with_room (with_room (Ok x) n bytes) 128 measures ≡ Ok x
roomy x n bytes measures h k =
    ap (λ b. with_room (cond b (Ok x) (Err BufferTooShort)) 128 measures) (le-leb n bytes h) ∙ ap (λ b. cond b (Ok x) (Err BufferTooShort)) (le-leb 128 measures k)

cramped : (x : Syntax) (n bytes measures : ℕ) → (n ≤ bytes → 128 ≤ measures → ⊥) → with_room (with_room (Ok x) n bytes) 128 measures ≡ Err BufferTooShort
cramped x n bytes measures none = elim (cases_lt bytes n) [
  | inl h ↦ ap (λ b. with_room (cond b (Ok x) (Err BufferTooShort)) 128 measures) (lt-leb n bytes h)
  | inr h ↦
      (let short : measures < 128 = omega (arith, none (omega (arith, h))) in
      ap (λ b. with_room (cond b (Ok x) (Err BufferTooShort)) 128 measures) (le-leb n bytes (omega (arith, h))) ∙ ap (λ b. cond b (Ok x) (Err BufferTooShort)) (lt-leb 128 measures short))
]

-- ---- the parts, by the sets of the tests
module _ (e : Expr) (sets : List ℕ) (are_sets : (q : ℕ) → get_or sets q 0 ≡ tag_set e (q + 1)) where
  set_of : (p q : ℕ) → p ≡ suc q → tags_of sets p ≡ tag_set e p
  set_of p q is = ap (tags_of sets) is ∙ are_sets q ∙ ap (tag_set e) (omega (arith, is))

  in_is_inside : (w : List ℕ) (t k : ℕ) → 1 ≤ t → t ≤ 8 → k < length (tests_of w) → is_in sets t (get_or (tests_of w) k 0) ≡ inside e t (get_or (tests_of w) k 0)
  in_is_inside w t k low high h =
      let p = get_or (tests_of w) k 0 in
      let is : p ≡ suc (get_or w k 0) = test_at w k (omega (arith, h, tests_length w)) ∙ omega arith in
      ap (λ s. bit s (t - 1)) (set_of p (get_or w k 0) is) ∙ tag_set_bit e p t low high

-- ---- what is answered, where the splitter is given the symbols of the stretch and the codes and sets of the pattern's tests
module _ {S M : Type 0} (start : M) (stepped : M → ℕ → M) (compared : M → M → Ordering) (meaning : ℕ → S → Bool) (x : Syntax) (a : Automaton) (words : HasWords (length x.codes) x.tree a)
    (codes : List ℕ) (are_codes : codes ≡ x.codes) (few : length codes ≤ 64) (sets : List ℕ) (are_sets : (q : ℕ) → get_or sets q 0 ≡ tag_set x.tree (q + 1))
    (line string : List S) (l r : ℕ) (is : string ≡ stretch line l r) (whole : length string + l ≡ r) (short : r ≤ 160) (measures : ℕ) (before after : List ℕ) where
  abbrev pub Answered : List S → List ℕ → Result (Unit {0}) Unsplit → Type 0
  Answered symbols tests answer = BestTrail start stepped compared a (passes meaning tests) (length tests) sets symbols measures before after answer

  in_the_line : (answer : Result (Unit {0}) Unsplit) → Answered string codes answer → Answered (stretch line l r) x.codes answer
  in_the_line answer h = subst (λ tests. Answered (stretch line l r) tests answer) are_codes (subst (λ symbols. Answered symbols codes answer) is h)

  few_tests : length x.codes ≤ 64
  few_tests = subst (λ tests. length tests ≤ 64) are_codes few

  symbols : length (stretch line l r) ≡ r - l
  symbols = ap length (sym is) ∙ omega (arith, whole)

  abbrev pub SplitAs : List (Option Part) → List (Option Part) → Result (Unit {0}) Refusal → Type 0
  SplitAs was entries answer = SplitBy start stepped compared meaning (with_room (with_room (Ok x) (r - l) (length before)) 128 measures) line l r before after was entries answer

  pub not_split : (u : Unsplit) (entries : List (Option Part)) → Answered string codes (Err u) → SplitAs entries entries (Err (unsplit u))
  not_split NoRoom entries h =
      let n = in_the_line (Err NoRoom) h in
      rw (cramped x (r - l) (length before) measures (λ b m. n.0 (omega (arith, symbols, short), omega (arith, symbols, b), m))) (refl, n.1, refl)
  not_split NoTrail entries h =
      let n = in_the_line (Err NoTrail) h in
      rw (roomy x (r - l) (length before) measures (omega (arith, symbols, n.0.1)) n.0.2) (refl, no_word meaning x a words few_tests line l r n.1, n.2, refl)

  pub split_done : (was entries : List (Option Part)) → Answered string codes (Ok tt) → PartsAlong (is_in sets) l (take (length string) after) entries → SplitAs was entries (Ok tt)
  split_done was entries h parts =
      let n = in_the_line (Ok tt) h in
      let t = n.1.positions in
      let front : take (r - l) after ≡ tests_of t = ap (λ n. take n after) (sym symbols) ∙ n.1.front in
      rw (roomy x (r - l) (length before) measures (omega (arith, symbols, n.0.1)) n.0.2) (record {
        word = tests_of t;
        best = best_word meaning x a words few_tests line l r start stepped compared sets (λ q low. are_sets q) t n.1.best;
        front = front;
        rest = subst (λ n. drop n after ≡ drop n before) symbols n.1.rest;
        parts =
            same_parts (is_in sets) (inside x.tree) l (tests_of t) entries (in_is_inside x.tree sets are_sets t)
            (subst (λ w. PartsAlong (is_in sets) l w entries) (ap (λ n. take n after) (let e : length string ≡ r - l = omega (arith, whole) in e) ∙ front) parts);
      })
