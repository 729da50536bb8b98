-- A row of the table, as a check that computes.
use Rattle.std.proofs.Common.{◌≡◌, ℕ, Bool, true, false, ◌&&◌, eqb, List, [], ◌∷◌, length, replicate, None, Ok, Err, sum, Result, refl, eqb-true}
use Rattle.std.proofs.lemmas.Bool.{and_parts}
use borrow.Author.Tests.{clash}
use Rattle.alphabet.specs.Letters.{letter_reading}
use Rattle.cue.specs.Leb128.{leb128}
use Rattle.cue.specs.Records.{record_of}
use Rattle.parts.specs.Parts.{PartsAlong}
use Rattle.pattern.specs.declared.fault.Fault.{Fault}
use Rattle.pattern.specs.Expressions.{Expr, Syntax}
use Rattle.pattern.specs.Positions.{numbered}
use Rattle.pattern.specs.Scanning.{syntax_of}
use Rattle.pattern.specs.Tags.{inside}
use Rattle.ranking.specs.Numbers.{ordered}
use Rattle.ranking.specs.TagLengths.{no_lengths, longer_by, first_difference}
use Rattle.ranking.specs.TagSets.{no_extent, extent_with}
use Rattle.shelf.specs.Matching.{test_admits, stretch}
use Rattle.shelf.specs.Splits.{rank}
use Rattle.examples.specs.Table.{Written, reading, meaning, RankedBy, extent, tag_order, Example, refused_pattern, longest_is, no_match, marks_are, split_is, number_is, record_is, Lawful, BestBy, AsListed, AllAsListed}
use Rattle.examples.proofs.Checks.{is_longest, none_reads, all_marked_right, to_longest, to_none_reads, to_marks}
use Rattle.examples.proofs.Splitting.{is_best, are_parts, to_best, to_parts}

-- what a pattern came to is lawful, its tests are numbered from 1 on, and its tests' meaning and its expression pass
abbrev pub passes : Written → ((ℕ → ℕ → Bool) → Expr → Bool) → Result Syntax Fault → Bool
passes w check (Ok x) = numbered x.tree 1 && check (test_admits (meaning w) x.codes) x.tree
passes w check (Err fault) = false

pub lawful : (w : Written) (bytes : List ℕ) (check : (ℕ → ℕ → Bool) → Expr → Bool) (Holds : (ℕ → ℕ → Bool) → Expr → Type 0) → ((admits : ℕ → ℕ → Bool) (e : Expr) → numbered e 1 ≡ true → check admits e ≡ true → Holds admits e) → passes w check (syntax_of (reading w) bytes) ≡ true → Lawful w bytes Holds
lawful w bytes check Holds right h = by (syntax_of (reading w) bytes) refl h
  where
    by : (r : Result Syntax Fault) → syntax_of (reading w) bytes ≡ r → passes w check r ≡ true → Lawful w bytes Holds
    by (Ok x) is h =
        let b = and_parts (numbered x.tree 1) (check (test_admits (meaning w) x.codes) x.tree) h in
        (x, is, right (test_admits (meaning w) x.codes) x.tree b.0 b.1)
    by (Err fault) is h = absurd (clash h)

-- of the stretch l to r of the line, the word is the best trail by the ranking
abbrev pub is_best_by : RankedBy → (ℕ → ℕ → Bool) → Expr → List ℕ → ℕ → ℕ → List ℕ → Bool
is_best_by extent admits e line l r word = is_best (rank no_extent extent_with e) ordered admits e (stretch line l r) word
is_best_by tag_order admits e line l r word = is_best (rank no_lengths longer_by e) first_difference admits e (stretch line l r) word

to_best_by : (ranking : RankedBy) (admits : ℕ → ℕ → Bool) (e : Expr) → numbered e 1 ≡ true → (line : List ℕ) (l r : ℕ) (word : List ℕ) → is_best_by ranking admits e line l r word ≡ true → BestBy ranking admits e line l r word
to_best_by extent admits e in_order line l r word h = to_best (rank no_extent extent_with e) ordered admits e in_order line l r word h
to_best_by tag_order admits e in_order line l r word h = to_best (rank no_lengths longer_by e) first_difference admits e in_order line l r word h

-- the row, as one equation between what is computed and what is listed
abbrev pub Computes : Example → Type 0
Computes (refused_pattern bytes fault) = syntax_of letter_reading bytes ≡ Err fault
Computes (longest_is w bytes line ends) = passes w (λ admits e. is_longest admits e line ends.0 ends.1) (syntax_of (reading w) bytes) ≡ true
Computes (no_match w bytes line) = passes w (λ admits e. none_reads admits e line) (syntax_of (reading w) bytes) ≡ true
Computes (marks_are w bytes line marks count) =
    passes w (λ admits e. all_marked_right admits e line marks) (syntax_of (reading w) bytes) && (eqb (length marks) (length line) && eqb count (sum marks)) ≡ true
Computes (split_is ranking w bytes line ends word entries) =
    passes w (λ admits e. is_best_by ranking admits e line ends.0 ends.1 word && are_parts (inside e) ends.0 word entries) (syntax_of (reading w) bytes) ≡ true
Computes (number_is n bytes) = leb128 n ≡ bytes
Computes (record_is marks bytes) = record_of marks (replicate 8 None) ≡ bytes

pub as_listed : (x : Example) → Computes x → AsListed x
as_listed (refused_pattern bytes fault) h = h
as_listed (longest_is w bytes line ends) h =
    lawful w bytes (λ admits e. is_longest admits e line ends.0 ends.1) _ (λ admits e in_order. to_longest admits e in_order line ends.0 ends.1) h
as_listed (no_match w bytes line) h =
    lawful w bytes (λ admits e. none_reads admits e line) _ (λ admits e in_order. to_none_reads admits e in_order line) h
as_listed (marks_are w bytes line marks count) h =
    let b = and_parts (passes w (λ admits e. all_marked_right admits e line marks) (syntax_of (reading w) bytes)) (eqb (length marks) (length line) && eqb count (sum marks)) h in
    let c = and_parts (eqb (length marks) (length line)) (eqb count (sum marks)) b.1 in (
      lawful w bytes (λ admits e. all_marked_right admits e line marks) _ (λ admits e in_order. to_marks admits e in_order line marks) b.0,
      eqb-true (length marks) (length line) c.0,
      eqb-true count (sum marks) c.1,
    )
as_listed (split_is ranking w bytes line ends word entries) h =
    lawful w bytes (λ admits e. is_best_by ranking admits e line ends.0 ends.1 word && are_parts (inside e) ends.0 word entries)
    (λ admits e. BestBy ranking admits e line ends.0 ends.1 word × PartsAlong (inside e) ends.0 word entries)
    (λ admits e in_order both.
    let b = and_parts (is_best_by ranking admits e line ends.0 ends.1 word) (are_parts (inside e) ends.0 word entries) both in
    (to_best_by ranking admits e in_order line ends.0 ends.1 word b.0, to_parts (inside e) ends.0 word entries b.1))
    h
as_listed (number_is n bytes) h = h
as_listed (record_is marks bytes) h = h

abbrev pub AllCompute : List Example → Type 0
AllCompute [] = Unit {0}
AllCompute (x ∷ xs) = Computes x × AllCompute xs

pub all_as_listed : (xs : List Example) → AllCompute xs → AllAsListed xs
all_as_listed [] h = tt
all_as_listed (x ∷ xs) h = (as_listed x h.0, all_as_listed xs h.1)
