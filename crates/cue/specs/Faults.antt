-- Why bytes are no cue record, and why a call is turned down, by number and offset, and in words.
use Rattle.std.specs.Prelude.{ℕ, List, Some, None, codes, Option}
use Rattle.cue.specs.declared.refusal.Fault.{Fault}
use Rattle.cue.specs.declared.refusal.Fault.TheVariants.{CutShort, LongNumber, BrokenRule}
use Rattle.cue.specs.declared.refusal.Refusal.{Refusal}
use Rattle.cue.specs.declared.refusal.Refusal.TheVariants.{LineTooLong, BufferTooShort, PartMisfits, NoRecord}

-- the number under which a fault is reported
abbrev pub fault_number : Fault → ℕ
fault_number (CutShort at) = 16
fault_number (LongNumber at) = 17
fault_number (BrokenRule at) = 18

-- what is wrong with the record, in words
abbrev pub fault_words : Fault → List ℕ
fault_words (CutShort at) = codes "the record is cut short"
fault_words (LongNumber at) = codes "a number is not in its shortest form, or too long"
fault_words (BrokenRule at) = codes "a number breaks a rule, or a byte is left over"

-- where in the record it stands
abbrev pub fault_offset : Fault → ℕ
fault_offset (CutShort at) = at
fault_offset (LongNumber at) = at
fault_offset (BrokenRule at) = at

-- the number under which a refusal is reported
abbrev pub refusal_number : Refusal → ℕ
refusal_number LineTooLong = 12
refusal_number BufferTooShort = 13
refusal_number PartMisfits = 14
refusal_number (NoRecord fault) = fault_number fault

-- what is wrong, in words
abbrev pub refusal_words : Refusal → List ℕ
refusal_words LineTooLong = codes "a line of more than 160 symbols"
refusal_words BufferTooShort = codes "the buffer is too short"
refusal_words PartMisfits = codes "a part is empty, reversed or past the line"
refusal_words (NoRecord fault) = fault_words fault

-- where in the record it goes wrong, if it is the record that goes wrong
abbrev pub refusal_offset : Refusal → Option ℕ
refusal_offset LineTooLong = None
refusal_offset BufferTooShort = None
refusal_offset PartMisfits = None
refusal_offset (NoRecord fault) = Some (fault_offset fault)
