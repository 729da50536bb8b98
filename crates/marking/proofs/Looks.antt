-- What the shelf's calls on a line come to, one after another.
use Rattle.std.proofs.Common.{◌≡◌, ℕ, ◌-◌, ◌<◌, ◌≤◌, Bool, true, false, cond, leb, ltb, List, length, get_or, map, take, Some, None, Ok, Err, Option, Result, sym, refl, ap, ◌∙◌, subst, arith}
use Rattle.std.proofs.lemmas.Bool.{and_from, le-leb, leb-true, ltb-true}
use Rattle.std.proofs.lemmas.List.{get_or-take, length-take-le}
use Rattle.alphabet.specs.Letters.{letter_meaning}
use Rattle.automaton.specs.Stretches.{Longest, MarkedRight}
use Rattle.pattern.specs.declared.kept.Pattern.{Pattern}
use Rattle.pattern.specs.Expressions.{Syntax}
use Rattle.ranking.specs.Numbers.{ordered}
use Rattle.ranking.specs.TagSets.{no_extent, extent_with}
use Rattle.sheet.specs.declared.Part.{Part}
use Rattle.shelf.specs.declared.refusal.Refusal.{Refusal}
use Rattle.shelf.specs.declared.refusal.Refusal.TheVariants.{NoSuchPlace, PlaceBare, LineTooLong, BufferTooShort, EndsMisfit}
use Rattle.shelf.specs.Places.{held_at, standing}
use Rattle.shelf.specs.Reports.{for_line, asked, LongestBy, with_room, MarksBy}
use Rattle.shelf.specs.Splits.{for_split, SplitBy}
use Rattle.marking.proofs.TagCounts.{tags_kept}
use Rattle.marking.specs.Tags.{tags_at}
use Rattle.marking.specs.Answers.{ReadsBy, Found}

-- the line is short enough for the pattern
short_line : (s : Result Syntax Refusal) (symbols : ℕ) (x : Syntax) → for_line s symbols ≡ Ok x → (s ≡ Ok x) × (symbols ≤ 160)
short_line (Err f) symbols x e = cc
short_line (Ok y) symbols x e = go (leb symbols 160) refl e
  where
    go : (b : Bool) → leb symbols 160 ≡ b → ◌≡◌ {A = Result Syntax Refusal} (cond b (Ok y) (Err LineTooLong)) (Ok x) → ◌≡◌ {A = Result Syntax Refusal} (Ok y) (Ok x) × (symbols ≤ 160)
    go true t e = (e, leb-true symbols 160 t)
    go false t e = cc

-- a pattern by which a line is asked stands at its place
pub asked_of : (places : List (Option Pattern)) (place symbols : ℕ) (x : Syntax) → asked places place symbols ≡ Ok x → (standing places place ≡ Ok x) × (symbols ≤ 160)
asked_of places place symbols x e = short_line (standing places place) symbols x e

-- a pattern stands at one of the ten places only
pub place_of_ten : (places : List (Option Pattern)) (place : ℕ) (x : Syntax) → standing places place ≡ Ok x → (place < 10) × (held_at places place ≡ Some x)
place_of_ten places place x e = go (ltb place 10) refl (held_at places place) e
  where
    go : (b : Bool) → ltb place 10 ≡ b → (o : Option Syntax) → cond b (elim o as (λ _. Result Syntax Refusal) [ None ↦ Err PlaceBare | Some y ↦ Ok y ]) (Err NoSuchPlace) ≡ Ok x → (place < 10) × (o ≡ Some x)
    go true t None e = cc
    go true t (Some y) e = (ltb-true place 10 t, cc)
    go false t o e = cc

abbrev Splits : Result Syntax Refusal → List ℕ → ℕ → ℕ → List ℕ → List ℕ → List (Option Part) → List (Option Part) → Result (Unit {0}) Refusal → Type 0
Splits pattern line l r before after was is answer = SplitBy no_extent extent_with ordered letter_meaning pattern line l r before after was is answer

-- there is room for the marks
marks_fit : (x : Syntax) (line before after : List ℕ) (answer : Result ℕ Refusal) → length line ≤ length before
    → MarksBy letter_meaning (with_room (Ok x) (length line) (length before)) line before after answer → MarksBy letter_meaning (Ok x) line before after answer
marks_fit x line before after answer h m = subst (λ b. MarksBy letter_meaning (cond b (Ok x) (Err BufferTooShort)) line before after answer) (le-leb (length line) (length before) h) m

-- two ends of a stretch, and room for its trail
ends_fit : (x : Syntax) (symbols l r bytes measures : ℕ) → l ≤ r → r ≤ symbols → r - l ≤ bytes → 128 ≤ measures → for_split (Ok x) symbols l r bytes measures ≡ Ok x
ends_fit x symbols l r bytes measures ordered within h k =
    ap (λ b. with_room (with_room (cond b (Ok x) (Err EndsMisfit)) (r - l) bytes) 128 measures) (and_from (leb l r) (leb r symbols) (le-leb l r ordered) (le-leb r symbols within))
    ∙ ap (λ b. with_room (cond b (Ok x) (Err BufferTooShort)) 128 measures) (le-leb (r - l) bytes h)
    ∙ ap (λ b. cond b (Ok x) (Err BufferTooShort)) (le-leb 128 measures k)

split_fits : (x : Syntax) (line : List ℕ) (ends : ℕ × ℕ) (trail trail_new : List ℕ) (measures : ℕ) (was is : List (Option Part)) (answer : Result (Unit {0}) Refusal)
    → length line ≤ length trail → 128 ≤ measures → Longest (ReadsBy x line) ends
    → Splits (for_split (Ok x) (length line) ends.0 ends.1 (length trail) measures) line ends.0 ends.1 trail trail_new was is answer → Splits (Ok x) line ends.0 ends.1 trail trail_new was is answer
split_fits x line ends trail trail_new measures was is answer h k long s =
    let ordered : ends.0 ≤ ends.1 = long.reads.ordered in
    let within : ends.1 ≤ length line = long.reads.within in
    subst (λ p. Splits p line ends.0 ends.1 trail trail_new was is answer) (ends_fit x (length line) ends.0 ends.1 (length trail) measures ordered within (omega arith) k) s

module _ (places : List (Option Pattern)) (place : ℕ) (line : List ℕ) (ends : ℕ × ℕ) where
  -- what is found of the line, and the pattern by which it is found
  pub looked : (before after : List ℕ) (count : ℕ) (trail trail_new : List ℕ) (measures : ℕ) (was now : List (Option Part)) → length before ≡ 160 → length trail ≡ 160 → 128 ≤ measures
      → LongestBy letter_meaning (asked places place (length line)) line (Ok ends)
      → MarksBy letter_meaning (with_room (asked places place (length line)) (length line) (length before)) line before after (Ok count)
      → Splits (for_split (asked places place (length line)) (length line) ends.0 ends.1 (length trail) measures) line ends.0 ends.1 trail trail_new was now (Ok tt)
      → (x : Syntax) × (asked places place (length line) ≡ Ok x) × Found x line ends (take (length line) after) now
  looked before after count trail trail_new measures was now room trail_room k long m s = go (asked places place (length line)) refl long m s
    where
      go : (r : Result Syntax Refusal) → asked places place (length line) ≡ r → LongestBy letter_meaning r line (Ok ends) → MarksBy letter_meaning (with_room r (length line) (length before)) line before after (Ok count)
          → Splits (for_split r (length line) ends.0 ends.1 (length trail) measures) line ends.0 ends.1 trail trail_new was now (Ok tt)
          → (x : Syntax) × (r ≡ Ok x) × Found x line ends (take (length line) after) now
      go (Err f) is long m s = cc
      go (Ok x) is long m s =
          let by = asked_of places place (length line) x is in
          let few : length line ≤ 160 = by.1 in
          let marks = marks_fit x line before after (Ok count) (omega arith) m in
          let kept : length after ≡ length before = marks.kept in
          let splitting = split_fits x line ends trail trail_new measures was now (Ok tt) (omega arith) k long s in (
            x,
            refl,
            record {
              longest = long;
              one_each = length-take-le (length line) after (omega arith);
              marked = λ i h. subst (λ mark. MarkedRight (ReadsBy x line) i mark) (sym (get_or-take (length line) after i 0 h)) (marks.marks i h);
              word = splitting.word;
              best = splitting.best;
              parts = splitting.parts;
            },
          )

-- what is kept of the tags of the pattern by which a line is asked
pub tags_of_asked : (places : List (Option Pattern)) (place symbols : ℕ) (kept : List ℕ) (x : Syntax) → kept ≡ map tags_at places → asked places place symbols ≡ Ok x → get_or kept place 0 ≡ x.tags
tags_of_asked places place symbols kept x e is = tags_kept places place kept x e (place_of_ten places place x (asked_of places place symbols x is).0).1
