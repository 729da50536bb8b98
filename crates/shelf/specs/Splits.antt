-- What splitting a stretch of a line answers: a trail and its parts. No automaton stands in these definitions.
use Rattle.std.specs.Prelude.{◌≡◌, ℕ, ◌-◌, Bool, cond, ◌&&◌, List, length, map, take, drop, Some, None, Ok, Err, Option, Result, nat_le, slice_range}
use Rattle.std.specs.declared.cmp.Ordering.{Ordering}
use Rattle.parts.specs.Parts.{PartsAlong}
use Rattle.pattern.specs.declared.kept.Pattern.{Pattern}
use Rattle.pattern.specs.Expressions.{Expr, Word, Syntax}
use Rattle.pattern.specs.Tags.{inside, tag_set}
use Rattle.ranking.specs.Ranks.{rank_of}
use Rattle.sheet.specs.declared.Part.{Part}
use Rattle.splitting.specs.Trails.{Best}
use Rattle.shelf.specs.declared.refusal.Refusal.{Refusal}
use Rattle.shelf.specs.declared.refusal.Refusal.TheVariants.{EndsMisfit, NoMatch}
use Rattle.shelf.specs.Matching.{test_admits, Admitted, stretch}
use Rattle.shelf.specs.Reports.{asked, with_room}

-- a trail of the stretch l to r: a word of the expression that has, symbol by symbol, a test that admits it. (Crate `splitting` has the
-- same by positions of an automaton.)
pub record Trail {S : Type 0} (admits : ℕ → S → Bool) (e : Expr) (line : List S) (l r : ℕ) (word : List ℕ) : Type 0 where
  pub is_word : Word e word
  pub admitted : Admitted admits word (stretch line l r)

-- the rank of a word: the start stepped once for each of its tests, first to last, by the set of the tags around the test
abbrev pub rank : {M : Type 0} → M → (M → ℕ → M) → Expr → List ℕ → M
rank start stepped e word = rank_of start stepped (map (λ p. tag_set e p) word)

-- of the trails of the stretch l to r the word is the best: every other ranks lower, or ranks equal and comes later in the tie order
abbrev pub BestWord : {S M : Type 0} → M → (M → ℕ → M) → (M → M → Ordering) → (ℕ → S → Bool) → Expr → List S → ℕ → ℕ → List ℕ → Type 0
BestWord start stepped compared admits e line l r word = Best (Trail admits e line l r) (rank start stepped e) compared word

-- whether l to r is a stretch of a line of so many symbols
abbrev pub ends_fit : ℕ → ℕ → ℕ → Bool
ends_fit symbols l r = nat_le l r && nat_le r symbols

-- what is asked of the two ends besides: that they are those of a stretch of the line
abbrev pub for_stretch : Result Syntax Refusal → ℕ → ℕ → ℕ → Result Syntax Refusal
for_stretch (Err refusal) symbols l r = Err refusal
for_stretch (Ok x) symbols l r = cond (ends_fit symbols l r) (Ok x) (Err EndsMisfit)

-- what is asked of a splitting besides: a stretch of the line, room for its trail, and a work buffer of at least 128 measures
abbrev pub for_split : Result Syntax Refusal → ℕ → ℕ → ℕ → ℕ → ℕ → Result Syntax Refusal
for_split pattern symbols l r trail_room work_room = with_room (with_room (for_stretch pattern symbols l r) (r - l) trail_room) 128 work_room

-- the pattern by which a stretch is split, or the refusal: by the place, by what stands there, by the line, by the ends, by the room
abbrev pub asked_split : List (Option Pattern) → ℕ → ℕ → ℕ → ℕ → ℕ → ℕ → Result Syntax Refusal
asked_split places place symbols l r trail_room work_room = for_split (asked places place symbols) symbols l r trail_room work_room

module _ {S M : Type 0} (start : M) (stepped : M → ℕ → M) (compared : M → M → Ordering) (meaning : ℕ → S → Bool) where
  -- the best trail stands at the front of the buffer, in place of what it held before, what stands behind is as it was, and the
  -- entries are the parts along this trail
  pub record BestSplit (x : Syntax) (line : List S) (l r : ℕ) (before after : List ℕ) (entries : List (Option Part)) : Type 0 where
    pub word : List ℕ
    pub best : BestWord start stepped compared (test_admits meaning x.codes) x.tree line l r word
    pub front : take (r - l) after ≡ word
    pub rest : drop (r - l) after ≡ drop (r - l) before
    pub parts : PartsAlong (inside x.tree) l word entries

  -- What splitting answers by a pattern, or by the refusal that is due: the best trail and its parts are written, or it is said that the
  -- stretch has no trail. A refusal leaves the buffer and the entries as they were.
  abbrev pub SplitBy : Result Syntax Refusal → List S → ℕ → ℕ → List ℕ → List ℕ → List (Option Part) → List (Option Part) → Result (Unit {0}) Refusal → Type 0
  SplitBy (Err refusal) line l r before after was is answer = (answer ≡ Err refusal) × (after ≡ before) × (is ≡ was)
  SplitBy (Ok x) line l r before after was is (Ok _) = BestSplit x line l r before after is
  SplitBy (Ok x) line l r before after was is (Err refusal) =
      (refusal ≡ NoMatch) × ((word : List ℕ) → Trail (test_admits meaning x.codes) x.tree line l r word → ⊥) × (after ≡ before) × (is ≡ was)

-- a tag's part of the line: none where it has none, its symbols where the part is a stretch of the line, or else the refusal
abbrev pub part_in : {S : Type 0} → Option Part → List S → Result (Option (List S)) Refusal
part_in None line = Ok None
part_in (Some part) line = cond (ends_fit (length line) part.left part.right) (Ok (Some (slice_range line part.left part.right))) (Err EndsMisfit)
