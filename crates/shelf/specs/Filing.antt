-- What filing and withdrawing answer, and what they leave.
use Rattle.std.specs.Prelude.{◌≡◌, ℕ, ◌<◌, ◌≤◌, cond, List, length, Some, None, Ok, Err, Option, Result, nat_lt, slice_set}
use Rattle.pattern.specs.declared.fault.Fault.{Fault}
use Rattle.pattern.specs.declared.kept.Pattern.{Pattern}
use Rattle.pattern.specs.Expressions.{Syntax}
use Rattle.pattern.specs.Grammar.{Derivable}
use Rattle.pattern.specs.Patterns.{syntax}
use Rattle.pattern.specs.Scanning.{syntax_of}
use Rattle.pattern.specs.Tokens.{Reading}
use Rattle.shelf.specs.declared.refusal.Refusal.{Refusal}
use Rattle.shelf.specs.declared.refusal.Refusal.TheVariants.{NoSuchPlace, PlaceTaken, Unlawful}
use Rattle.shelf.specs.Places.{Register, held_at, standing}

-- a pattern or its fault, the fault as a refusal
abbrev pub unlawful : Result Syntax Fault → Result Syntax Refusal
unlawful (Ok x) = Ok x
unlawful (Err f) = Err (Unlawful f)

-- the pattern that is filed, or the first refusal: by the place, by what a register has there, by the bytes
abbrev pub filing_in : Reading → Register → ℕ → List ℕ → Result Syntax Refusal
filing_in reading register place bytes =
    cond (nat_lt place 10)
    (elim (register place) [ None ↦ unlawful (syntax_of reading bytes) | Some x ↦ Err PlaceTaken ])
    (Err NoSuchPlace)

-- the same, by the places of a shelf
abbrev pub filing : Reading → List (Option Pattern) → ℕ → List ℕ → Result Syntax Refusal
filing reading places place bytes = filing_in reading (held_at places) place bytes

-- how many tests and tags it has
abbrev pub counts : Result Syntax Refusal → Result (ℕ × ℕ) Refusal
counts (Ok x) = Ok (length x.codes, x.tags)
counts (Err r) = Err r

-- after a filing the pattern stands at its place, and every other place is as it was; a refusal changes no place
abbrev pub FiledAfter : Result Syntax Refusal → ℕ → List (Option Pattern) → List (Option Pattern) → Type 0
FiledAfter (Ok x) place was is = (p : Pattern) × (syntax p ≡ x) × (is ≡ slice_set was place (Some p))
FiledAfter (Err r) place was is = is ≡ was

-- the place is one of the ten, nothing stands there, and the grammar derives a pattern from the bytes
pub record Fileable (reading : Reading) (places : List (Option Pattern)) (place : ℕ) (bytes : List ℕ) : Type 0 where
  pub one_of_ten : place < 10
  pub bare : held_at places place ≡ None
  pub lawful : (x : Syntax) × Derivable reading bytes x

-- the pattern is read: the place is one of the ten, nothing stands there, and the bytes are not too many
pub record Readable (places : List (Option Pattern)) (place : ℕ) (bytes : List ℕ) : Type 0 where
  pub one_of_ten : place < 10
  pub bare : held_at places place ≡ None
  pub not_too_long : length bytes ≤ 120

-- that it is taken away, or the refusal
abbrev pub taken_away : Result Syntax Refusal → Result (Unit {0}) Refusal
taken_away (Ok x) = Ok tt
taken_away (Err r) = Err r

-- what withdrawing answers: that the pattern at the place is taken away, or the refusal, by the place and by what stands there
abbrev pub withdrawing : List (Option Pattern) → ℕ → Result (Unit {0}) Refusal
withdrawing places place = taken_away (standing places place)
