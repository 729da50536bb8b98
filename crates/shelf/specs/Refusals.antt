-- The refusals of the shelf's calls, by number, offset and cause, and in words.
use Rattle.std.specs.Prelude.{ℕ, List, None, codes, Option}
use Rattle.alphabet.specs.declared.Cause.{Cause}
use Rattle.pattern.specs.Faults.{fault_number, fault_words, fault_offset, fault_cause}
use Rattle.splitting.specs.declared.Unsplit.{Unsplit}
use Rattle.splitting.specs.declared.Unsplit.TheVariants.{NoRoom, NoTrail}
use Rattle.shelf.specs.declared.refusal.Refusal.{Refusal}
use Rattle.shelf.specs.declared.refusal.Refusal.TheVariants.{NoSuchPlace, PlaceTaken, PlaceBare, Unlawful, LineTooLong, BufferTooShort, EndsMisfit, NoMatch}

-- why a stretch is not split
abbrev pub unsplit : Unsplit → Refusal
unsplit NoRoom = BufferTooShort
unsplit NoTrail = NoMatch

-- the number under which a refusal is reported
abbrev pub refusal_number : Refusal → ℕ
refusal_number NoSuchPlace = 1
refusal_number PlaceTaken = 2
refusal_number PlaceBare = 3
refusal_number (Unlawful f) = fault_number f
refusal_number LineTooLong = 12
refusal_number BufferTooShort = 13
refusal_number EndsMisfit = 14
refusal_number NoMatch = 15

-- what is wrong, in words
abbrev pub refusal_words : Refusal → List ℕ
refusal_words NoSuchPlace = codes "no such place"
refusal_words PlaceTaken = codes "the place is taken"
refusal_words PlaceBare = codes "the place has no pattern"
refusal_words (Unlawful f) = fault_words f
refusal_words LineTooLong = codes "a line of more than 160 symbols"
refusal_words BufferTooShort = codes "the buffer is too short"
refusal_words EndsMisfit = codes "the ends are not those of a stretch of the line"
refusal_words NoMatch = codes "nothing reads"

-- where in the pattern it goes wrong, if it is the pattern that goes wrong
abbrev pub refusal_offset : Refusal → Option ℕ
refusal_offset NoSuchPlace = None
refusal_offset PlaceTaken = None
refusal_offset PlaceBare = None
refusal_offset (Unlawful f) = fault_offset f
refusal_offset LineTooLong = None
refusal_offset BufferTooShort = None
refusal_offset EndsMisfit = None
refusal_offset NoMatch = None

-- the notation's own cause, of a bad test
abbrev pub refusal_cause : Refusal → Option Cause
refusal_cause NoSuchPlace = None
refusal_cause PlaceTaken = None
refusal_cause PlaceBare = None
refusal_cause (Unlawful f) = fault_cause f
refusal_cause LineTooLong = None
refusal_cause BufferTooShort = None
refusal_cause EndsMisfit = None
refusal_cause NoMatch = None
