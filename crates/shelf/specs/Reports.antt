-- What the calls that report of a line answer.
use Rattle.std.specs.Prelude.{◌≡◌, ℕ, Bool, cond, List, length, Ok, Err, Option, Result, nat_le}
use Rattle.pattern.specs.declared.kept.Pattern.{Pattern}
use Rattle.pattern.specs.Expressions.{Syntax}
use Rattle.shelf.specs.declared.refusal.Refusal.{Refusal}
use Rattle.shelf.specs.declared.refusal.Refusal.TheVariants.{LineTooLong, BufferTooShort, NoMatch}
use Rattle.shelf.specs.Places.{Register, held_at, standing_in}
use Rattle.automaton.specs.Stretches.{Longest, NoneReads, Marks}
use Rattle.shelf.specs.Matching.{test_admits, Reads}

-- what is asked of a line besides: no more than 160 symbols
abbrev pub for_line : Result Syntax Refusal → ℕ → Result Syntax Refusal
for_line (Err refusal) symbols = Err refusal
for_line (Ok x) symbols = cond (nat_le symbols 160) (Ok x) (Err LineTooLong)

-- the pattern by which a line of so many symbols is reported, or the refusal: by the place, by what a register has there, by the line
abbrev pub asked_in : Register → ℕ → ℕ → Result Syntax Refusal
asked_in register place symbols = for_line (standing_in register place) symbols

-- the same, by the places of a shelf
abbrev pub asked : List (Option Pattern) → ℕ → ℕ → Result Syntax Refusal
asked places place symbols = asked_in (held_at places) place symbols

-- what the longest call answers by a pattern, or by the refusal that is due: the longest stretch, or that none reads
abbrev pub LongestBy : {S : Type 0} → (ℕ → S → Bool) → Result Syntax Refusal → List S → Result (ℕ × ℕ) Refusal → Type 0
LongestBy meaning (Err refusal) line r = r ≡ Err refusal
LongestBy meaning (Ok x) line (Ok ends) = Longest (Reads (test_admits meaning x.codes) x.tree line) ends
LongestBy meaning (Ok x) line (Err refusal) = (refusal ≡ NoMatch) × NoneReads (Reads (test_admits meaning x.codes) x.tree line)

-- what is asked of a marking besides: room for a mark a symbol
abbrev pub with_room : Result Syntax Refusal → ℕ → ℕ → Result Syntax Refusal
with_room (Err refusal) symbols room = Err refusal
with_room (Ok x) symbols room = cond (nat_le symbols room) (Ok x) (Err BufferTooShort)

-- what marking answers by a pattern, or by the refusal that is due: the marks and their count; a refusal leaves the buffer as it was
abbrev pub MarksBy : {S : Type 0} → (ℕ → S → Bool) → Result Syntax Refusal → List S → List ℕ → List ℕ → Result ℕ Refusal → Type 0
MarksBy meaning (Err refusal) line before after r = (r ≡ Err refusal) × (after ≡ before)
MarksBy meaning (Ok x) line before after (Ok count) = Marks (Reads (test_admits meaning x.codes) x.tree line) (length line) before after count
MarksBy meaning (Ok x) line before after (Err refusal) = ⊥
