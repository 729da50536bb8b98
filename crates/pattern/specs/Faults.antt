-- The faults of a pattern, by number, offset and cause, and in words.
use Rattle.std.specs.Prelude.{ℕ, List, Some, None, codes, Option}
use Rattle.alphabet.specs.declared.Cause.{Cause}
use Rattle.alphabet.specs.Causes.{cause_words}
use Rattle.pattern.specs.declared.fault.Fault.{Fault}
use Rattle.pattern.specs.declared.fault.Fault.TheVariants.{TooLong, BadTest, MissingUnit, LooseBracket, TooDeep, TooManyTests, TooManyTags, RepeatedTag}

-- the number under which a fault is reported
abbrev pub fault_number : Fault → ℕ
fault_number TooLong = 4
fault_number (BadTest m) = 5
fault_number (MissingUnit at) = 6
fault_number (LooseBracket at) = 7
fault_number (TooDeep at) = 8
fault_number (TooManyTests at) = 9
fault_number (TooManyTags at) = 10
fault_number (RepeatedTag at) = 11

-- what is wrong, in words
abbrev pub fault_words : Fault → List ℕ
fault_words TooLong = codes "longer than 120 bytes"
fault_words (BadTest m) = cause_words m.cause
fault_words (MissingUnit at) = codes "a test or a group is missing here"
fault_words (LooseBracket at) = codes "a bracket closes nothing, or one is still open at the end"
fault_words (TooDeep at) = codes "more than 8 groups are open"
fault_words (TooManyTests at) = codes "more than 64 tests"
fault_words (TooManyTags at) = codes "more than 8 tags"
fault_words (RepeatedTag at) = codes "a * or + repeats a tag"

-- where the pattern goes wrong; one that is too long goes wrong nowhere in particular
abbrev pub fault_offset : Fault → Option ℕ
fault_offset TooLong = None
fault_offset (BadTest m) = Some m.offset
fault_offset (MissingUnit at) = Some at
fault_offset (LooseBracket at) = Some at
fault_offset (TooDeep at) = Some at
fault_offset (TooManyTests at) = Some at
fault_offset (TooManyTags at) = Some at
fault_offset (RepeatedTag at) = Some at

-- the notation's own cause, of a bad test
abbrev pub fault_cause : Fault → Option Cause
fault_cause (BadTest m) = Some m.cause
fault_cause _ = None
