-- The examples that stand as theorems.
use Rattle.std.specs.Prelude.{◌≡◌, ℕ, ◌<◌, Bool, List, [], ◌∷◌, length, replicate, Some, None, Option, Ok, Err, codes, sum, slice_index}
use Rattle.alphabet.specs.declared.Cause.TheVariants.{OutOfRange}
use Rattle.alphabet.specs.Letters.{letter_reading, letter_meaning}
use Rattle.alphabet.specs.Words.{word_reading, word_meaning}
use Rattle.automaton.specs.Stretches.{Longest, NoneReads, MarkedRight}
use Rattle.cue.specs.Leb128.{leb128}
use Rattle.cue.specs.Records.{record_of}
use Rattle.parts.specs.Parts.{PartsAlong}
use Rattle.pattern.specs.declared.fault.Fault.{Fault}
use Rattle.pattern.specs.declared.fault.Fault.TheVariants.{BadTest, MissingUnit, LooseBracket, RepeatedTag}
use Rattle.pattern.specs.Expressions.{Expr, Syntax}
use Rattle.pattern.specs.Scanning.{syntax_of}
use Rattle.pattern.specs.Tags.{inside}
use Rattle.pattern.specs.Tokens.{Reading}
use Rattle.ranking.specs.Numbers.{ordered}
use Rattle.ranking.specs.TagLengths.{no_lengths, longer_by, first_difference}
use Rattle.ranking.specs.TagSets.{no_extent, extent_with}
use Rattle.sheet.specs.declared.Part.{Part}
use Rattle.shelf.specs.Matching.{test_admits, Reads}
use Rattle.shelf.specs.Splits.{BestWord}

-- the notation in which a pattern is written; either has numbers for symbols
pub data Written : Type 0 where
  letters words : Written

-- what the notation reads
abbrev pub reading : Written → Reading
reading letters = letter_reading
reading words = word_reading

-- which symbols its tests admit
abbrev pub meaning : Written → ℕ → ℕ → Bool
meaning letters = letter_meaning
meaning words = word_meaning

-- the ranking by which a stretch is split
pub data RankedBy : Type 0 where
  extent tag_order : RankedBy

-- an example: what the bytes of a pattern come to, what the pattern reads of a line, how it splits a stretch of a line, or the bytes of
-- a cue record
pub data Example : Type 0 where
  -- the pattern has this fault
  refused_pattern : List ℕ → Fault → Example
  -- of the line, the stretch between these ends is the longest that reads, and the first of that length
  longest_is : Written → List ℕ → List ℕ → ℕ × ℕ → Example
  -- of the line, no stretch reads
  no_match : Written → List ℕ → List ℕ → Example
  -- a 1 for each symbol of the line that is in a stretch that reads, a 0 for each other, and how many are in one
  marks_are : Written → List ℕ → List ℕ → List ℕ → ℕ → Example
  -- of the stretch between these ends, this is the best trail by the ranking, and the entries are the parts along it
  split_is : RankedBy → Written → List ℕ → List ℕ → ℕ × ℕ → List ℕ → List (Option Part) → Example
  -- the number has these bytes in a cue record
  number_is : ℕ → List ℕ → Example
  -- the marks of a line, without parts, have this cue record
  record_is : List ℕ → List ℕ → Example

-- the pattern is lawful, and this holds of its tests' meaning and of its expression
abbrev pub Lawful : Written → List ℕ → ((ℕ → ℕ → Bool) → Expr → Type 0) → Type 0
Lawful w bytes Holds = (x : Syntax) × (syntax_of (reading w) bytes ≡ Ok x) × Holds (test_admits (meaning w) x.codes) x.tree

-- of the stretch l to r of the line, the word is the best trail by the ranking
abbrev pub BestBy : RankedBy → (ℕ → ℕ → Bool) → Expr → List ℕ → ℕ → ℕ → List ℕ → Type 0
BestBy extent admits e line l r word = BestWord no_extent extent_with ordered admits e line l r word
BestBy tag_order admits e line l r word = BestWord no_lengths longer_by first_difference admits e line l r word

-- the example comes out as it says
abbrev pub AsListed : Example → Type 0
AsListed (refused_pattern bytes fault) = syntax_of letter_reading bytes ≡ Err fault
AsListed (longest_is w bytes line ends) = Lawful w bytes (λ admits e. Longest (Reads admits e line) ends)
AsListed (no_match w bytes line) = Lawful w bytes (λ admits e. NoneReads (Reads admits e line))
AsListed (marks_are w bytes line marks count) =
    Lawful w bytes (λ admits e. (i : ℕ) → i < length line → MarkedRight (Reads admits e line) i (slice_index marks i))
    × (length marks ≡ length line)
    × (count ≡ sum marks)
AsListed (split_is ranking w bytes line ends word entries) =
    Lawful w bytes (λ admits e. BestBy ranking admits e line ends.0 ends.1 word × PartsAlong (inside e) ends.0 word entries)
AsListed (number_is n bytes) = leb128 n ≡ bytes
AsListed (record_is marks bytes) = record_of marks (replicate 8 None) ≡ bytes

-- each of them does
abbrev pub AllAsListed : List Example → Type 0
AllAsListed [] = Unit {0}
AllAsListed (x ∷ xs) = AsListed x × AllAsListed xs

-- a tag's part, from its first symbol to just past its last
abbrev pub part : ℕ → ℕ → Option Part
part left right = Some (record { left = left; right = right })

-- the table
abbrev pub examples : List Example
examples =
    refused_pattern (codes "") (MissingUnit 0)
    ∷ refused_pattern (codes "(b") (LooseBracket 2)
    ∷ refused_pattern (codes "({a)") (LooseBracket 3)
    ∷ refused_pattern (codes "({a})*") (RepeatedTag 5)
    ∷ refused_pattern (codes "[z-a]") (BadTest (record { cause = OutOfRange; offset = 0 }))
    ∷ longest_is letters (codes "bb*") (codes "abbabbbab") (4, 7)
    ∷ marks_are letters (codes "bb*") (codes "abbabbbab") (0 ∷ 1 ∷ 1 ∷ 0 ∷ 1 ∷ 1 ∷ 1 ∷ 0 ∷ 1 ∷ []) 6
    ∷ longest_is letters (codes "aba") (codes "ababa") (0, 3)
    ∷ marks_are letters (codes "aba") (codes "ababa") (1 ∷ 1 ∷ 1 ∷ 1 ∷ 1 ∷ []) 5
    ∷ longest_is letters (codes "a*") (codes "bb") (0, 0)
    ∷ marks_are letters (codes "a*") (codes "bb") (0 ∷ 0 ∷ []) 0
    ∷ no_match letters (codes "a") []
    ∷ longest_is words (codes "#3;@7;*") (196609 ∷ 131079 ∷ 327687 ∷ []) (0, 3)
    ∷ split_is extent letters (codes "{a}bc|a{b{c}}") (codes "abc") (0, 3) (4 ∷ 5 ∷ 6 ∷ []) (None ∷ part 1 3 ∷ part 2 3 ∷ replicate 5 None)
    ∷ split_is tag_order letters (codes "{a}bc|a{b{c}}") (codes "abc") (0, 3) (1 ∷ 2 ∷ 3 ∷ []) (part 0 1 ∷ replicate 7 None)
    ∷ split_is extent letters (codes "a{b}|{a}b") (codes "ab") (0, 2) (1 ∷ 2 ∷ []) (part 1 2 ∷ replicate 7 None)
    ∷ split_is extent letters (codes "a{b*}c") (codes "ac") (0, 2) (1 ∷ 3 ∷ []) (replicate 8 None)
    ∷ number_is 0 (0 ∷ [])
    ∷ number_is 1 (1 ∷ [])
    ∷ number_is 2 (2 ∷ [])
    ∷ number_is 127 (127 ∷ [])
    ∷ number_is 128 (128 ∷ 1 ∷ [])
    ∷ number_is 129 (129 ∷ 1 ∷ [])
    ∷ number_is 130 (130 ∷ 1 ∷ [])
    ∷ number_is 159 (159 ∷ 1 ∷ [])
    ∷ number_is 160 (160 ∷ 1 ∷ [])
    ∷ number_is 12857 (185 ∷ 100 ∷ [])
    ∷ record_is (0 ∷ 1 ∷ 1 ∷ 0 ∷ 1 ∷ 1 ∷ 1 ∷ 0 ∷ 1 ∷ []) (3 ∷ 1 ∷ 2 ∷ 1 ∷ 3 ∷ 1 ∷ 1 ∷ 0 ∷ [])
    ∷ record_is (replicate 160 1) (1 ∷ 0 ∷ 160 ∷ 1 ∷ 0 ∷ [])
    ∷ []
