-- Words: how a set of word codes is written, and what it means. A code's kind is code / 65536, its entry code % 65536.
use Rattle.std.specs.Prelude.{ℕ, ◌+◌, ◌-◌, ◌*◌, ◌/◌, ◌%◌, Bool, true, cond, ◌&&◌, List, [], ◌∷◌, Ok, Err, Result, ◌==◌, nat_le, nat_lt}
use Rattle.alphabet.specs.declared.Cause.{Cause}
use Rattle.alphabet.specs.declared.Cause.TheVariants.{CutShort, OutOfRange, UnknownForm}

-- the test admits the word code. The test of an entry is the entry's number, that of a kind is 65536 and the kind's number, and 131072
-- admits every word.
abbrev pub word_meaning : ℕ → ℕ → Bool
word_meaning test s =
    cond (nat_lt test 65536) (s % 65536 == test) (cond (nat_lt test 131072) (s / 65536 == test - 65536) true)

-- the byte is a digit, 0 to 9
abbrev pub is_digit : ℕ → Bool
is_digit b = nat_le 48 b && nat_le b 57

-- what a ; ends: at least one digit, and no value above the limit
abbrev pub number_end : ℕ → ℕ → ℕ → Result (ℕ × ℕ) Cause
number_end limit count value =
    cond (count == 0) (Err UnknownForm) (cond (nat_le value limit) (Ok (value, count)) (Err OutOfRange))

-- the value and the number of the digits before a ; where count digits of this value were read already
abbrev pub number_from : ℕ → ℕ → ℕ → ℕ → List ℕ → Result (ℕ × ℕ) Cause
number_from most limit count value [] = Err CutShort
number_from most limit count value (b ∷ bytes) =
    cond (is_digit b)
    (cond (nat_lt count most) (number_from most limit (count + 1) (value * 10 + (b - 48)) bytes) (Err OutOfRange))
    (cond (b == 59) (number_end limit count value) (Err UnknownForm))

-- a number of so many digits at most, up to a limit
abbrev pub number_reading : ℕ → ℕ → List ℕ → Result (ℕ × ℕ) Cause
number_reading most limit bytes = number_from most limit 0 0 bytes

-- a number as a test: base tells kinds from entries, and the bytes before and after the digits are used too
abbrev pub number_test : ℕ → Result (ℕ × ℕ) Cause → Result (ℕ × ℕ) Cause
number_test base (Ok number) = Ok (number.0 + base, number.1 + 2)
number_test base (Err cause) = Err cause

-- what words read at the front of bytes: a test and how many bytes it takes, or why there is none
abbrev pub word_reading : List ℕ → Result (ℕ × ℕ) Cause
word_reading [] = Err CutShort
word_reading (b ∷ bytes) =
    cond (b == 46) (Ok (131072, 1))
    (cond (b == 35) (number_test 65536 (number_reading 3 255 bytes))
    (cond (b == 64) (number_test 0 (number_reading 5 65535 bytes)) (Err UnknownForm)))
