-- What stands at the places of a shelf.
use Rattle.std.specs.Prelude.{ℕ, cond, List, Some, None, Ok, Err, Option, Result, nat_lt, slice_index_or}
use Rattle.pattern.specs.declared.kept.Pattern.{Pattern}
use Rattle.pattern.specs.Expressions.{Syntax}
use Rattle.pattern.specs.Patterns.{syntax}
use Rattle.shelf.specs.declared.refusal.Refusal.{Refusal}
use Rattle.shelf.specs.declared.refusal.Refusal.TheVariants.{NoSuchPlace, PlaceBare}

-- what a place holds: the pattern that stands there, if any
abbrev pub held : Option Pattern → Option Syntax
held None = None
held (Some p) = Some (syntax p)

-- what the place of a number holds; a number that no place has holds nothing
abbrev pub held_at : List (Option Pattern) → ℕ → Option Syntax
held_at places k = held (slice_index_or places k None)

-- a register tells what stands where: of a place, the pattern that stands there, if any
abbrev pub Register : Type 0
Register = ℕ → Option Syntax

-- the pattern that a register has at a place, or the refusal: by the place, by what stands there
abbrev pub standing_in : Register → ℕ → Result Syntax Refusal
standing_in register place =
    cond (nat_lt place 10) (elim (register place) [ None ↦ Err PlaceBare | Some x ↦ Ok x ]) (Err NoSuchPlace)

-- the same, of the places of a shelf
abbrev pub standing : List (Option Pattern) → ℕ → Result Syntax Refusal
standing places place = standing_in (held_at places) place
