-- What is printed for an order, and what the places hold afterwards.
use Rattle.std.specs.Prelude.{◌≡◌, ℕ, ◌<◌, cond, ◌⊎◌, List, ◌++◌, length, is_ok, None, Ok, Err, Option, Result, slice_index, slice_set}
use Rattle.alphabet.specs.Letters.{letter_meaning, letter_reading}
use Rattle.automaton.specs.Stretches.{Longest, NoneReads, MarkedRight}
use Rattle.orders.specs.Orders.{Wanted, to_file, to_withdraw, to_ask, IsOrder, NoOrder}
use Rattle.orders.specs.Printing.{filed_text, withdrawn_text, unknown_text, refused_text, longest_text, marks_text, parts_text}
use Rattle.parts.specs.Parts.{PartsAlong}
use Rattle.pattern.specs.declared.kept.Pattern.{Pattern}
use Rattle.pattern.specs.Expressions.{Syntax}
use Rattle.pattern.specs.Tags.{inside}
use Rattle.ranking.specs.Numbers.{ordered}
use Rattle.ranking.specs.TagSets.{no_extent, extent_with}
use Rattle.sheet.specs.declared.Part.{Part}
use Rattle.shelf.specs.declared.refusal.Refusal.{Refusal}
use Rattle.shelf.specs.declared.refusal.Refusal.TheVariants.{NoMatch}
use Rattle.shelf.specs.Filing.{filing, counts, FiledAfter, withdrawing}
use Rattle.shelf.specs.Matching.{test_admits, Reads}
use Rattle.shelf.specs.Reports.{asked}
use Rattle.shelf.specs.Splits.{BestWord}

-- the numbers of tests and tags, or the refusal
abbrev pub filing_text : Result (ℕ × ℕ) Refusal → List ℕ
filing_text (Ok counts) = filed_text counts.0 counts.1
filing_text (Err refusal) = refused_text refusal

-- that it is done, or the refusal
abbrev pub withdrawing_text : Result (Unit {0}) Refusal → List ℕ
withdrawing_text (Ok done) = withdrawn_text
withdrawing_text (Err refusal) = refused_text refusal

-- the places with one bare, unless withdrawing is refused
abbrev pub bared : List (Option Pattern) → ℕ → List (Option Pattern)
bared places place = cond (is_ok (withdrawing places place)) (slice_set places place None) places

-- the stretch l to r reads by the pattern
abbrev pub ReadsBy : Syntax → List ℕ → ℕ → ℕ → Type 0
ReadsBy x line l r = Reads (test_admits letter_meaning x.codes) x.tree line l r

-- the word is the best trail of a stretch by extent: the one whose tests are inside most tags, counted over all of them, and of several
-- the first in the tie order
abbrev pub BestByExtent : Syntax → List ℕ → ℕ → ℕ → List ℕ → Type 0
BestByExtent x line l r word =
    BestWord no_extent extent_with ordered (test_admits letter_meaning x.codes) x.tree line l r word

-- the ends are those of the longest stretch that reads, the marks those of the symbols, one each, and the entries are the parts of the
-- best trail of that stretch
pub record Found (x : Syntax) (line : List ℕ) (ends : ℕ × ℕ) (marks : List ℕ) (entries : List (Option Part)) : Type 0 where
  pub longest : Longest (ReadsBy x line) ends
  pub one_each : length marks ≡ length line
  pub marked : (i : ℕ) → i < length line → MarkedRight (ReadsBy x line) i (slice_index marks i)
  pub word : List ℕ
  pub best : BestByExtent x line ends.0 ends.1 word
  pub parts : PartsAlong (inside x.tree) ends.0 word entries

-- the three lines, the last with the tags that the pattern has
abbrev pub found_text : Syntax → ℕ × ℕ → List ℕ → List (Option Part) → List ℕ
found_text x ends marks entries = longest_text ends.0 ends.1 ++ (marks_text marks ++ parts_text x.tags entries)

-- the text tells what is found of the line
pub record Tells (x : Syntax) (line text : List ℕ) : Type 0 where
  pub ends : ℕ × ℕ
  pub marks : List ℕ
  pub entries : List (Option Part)
  pub found : Found x line ends marks entries
  pub is : text ≡ found_text x ends marks entries

-- the text tells what is found, or that no stretch reads, or the refusal
abbrev pub Reported : Result Syntax Refusal → List ℕ → List ℕ → Type 0
Reported (Err refusal) line text = text ≡ refused_text refusal
Reported (Ok x) line text = Tells x line text ⊎ (NoneReads (ReadsBy x line) × (text ≡ refused_text NoMatch))

-- what becomes of an order, by what the places held before: the text that is printed and what the places hold afterwards
abbrev pub Outcome : Wanted → List (Option Pattern) → List (Option Pattern) → List ℕ → Type 0
Outcome (to_file place pattern) was is text =
    (text ≡ filing_text (counts (filing letter_reading was place pattern))) × FiledAfter (filing letter_reading was place pattern) place was is
Outcome (to_withdraw place) was is text = (text ≡ withdrawing_text (withdrawing was place)) × (is ≡ bared was place)
Outcome (to_ask place line) was is text = Reported (asked was place (length line)) line text × (is ≡ was)

-- the outcome is that of the order that the bytes are; where they are none, it is said so and the places are as they were
pub record Answered (bytes : List ℕ) (was is : List (Option Pattern)) (text : List ℕ) : Type 0 where
  pub order : (w : Wanted) → IsOrder w bytes → Outcome w was is text
  pub no_order : NoOrder bytes → (text ≡ unknown_text) × (is ≡ was)
