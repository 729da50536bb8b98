-- Letters: how a set of bytes is written, and what it means.
use Rattle.std.specs.Prelude.{ℕ, ◌+◌, ◌-◌, ◌*◌, ◌/◌, ◌%◌, Bool, cond, List, [], ◌∷◌, Ok, Err, Result, ◌==◌, nat_le, nat_lt}
use Rattle.alphabet.specs.declared.Cause.{Cause}
use Rattle.alphabet.specs.declared.Cause.TheVariants.{CutShort, OutOfRange, UnknownForm}

-- how many steps a byte stands above another, where 0 comes after 255
abbrev pub above : ℕ → ℕ → ℕ
above low s = (s + 256 - low) % 256

-- A test is a run of bytes, in which 0 comes after 255. Its number is its first byte, and 256 times how many bytes it has.

-- the bytes low to high
abbrev pub range_test : ℕ → ℕ → ℕ
range_test low high = low + 256 * (above low high + 1)

-- all bytes but low to high: those from after high on
abbrev pub others_test : ℕ → ℕ → ℕ
others_test low high = (high + 1) % 256 + 256 * (255 - above low high)

-- the test admits the byte: it is one of the run
abbrev pub letter_meaning : ℕ → ℕ → Bool
letter_meaning test s = nat_lt (above (test % 256) s) (test / 256)

-- from after the high byte on: a ]
abbrev pub span_end : ℕ → ℕ → List ℕ → Result (ℕ × ℕ) Cause
span_end low high [] = Err CutShort
span_end low high (b ∷ bytes) = cond (b == 93) (cond (nat_le low high) (Ok (low, high)) (Err OutOfRange)) (Err UnknownForm)

-- from after the - on: the high byte
abbrev pub span_high : ℕ → List ℕ → Result (ℕ × ℕ) Cause
span_high low [] = Err CutShort
span_high low (high ∷ bytes) = span_end low high bytes

-- from after the low byte on: a -
abbrev pub span_dash : ℕ → List ℕ → Result (ℕ × ℕ) Cause
span_dash low [] = Err CutShort
span_dash low (b ∷ bytes) = cond (b == 45) (span_high low bytes) (Err UnknownForm)

-- low-high] : the two limits
abbrev pub span_reading : List ℕ → Result (ℕ × ℕ) Cause
span_reading [] = Err CutShort
span_reading (low ∷ bytes) = span_dash low bytes

-- limits as the test that they make, and so many bytes are used
abbrev pub span_test : (ℕ → ℕ → ℕ) → ℕ → Result (ℕ × ℕ) Cause → Result (ℕ × ℕ) Cause
span_test test used (Ok limits) = Ok (test limits.0 limits.1, used)
span_test test used (Err cause) = Err cause

-- from after a \ on: any byte
abbrev pub escaped_reading : List ℕ → Result (ℕ × ℕ) Cause
escaped_reading [] = Err CutShort
escaped_reading (b ∷ bytes) = Ok (range_test b b, 2)

-- from after a [ on: ^ and the limits, or the limits
abbrev pub bracket_reading : List ℕ → Result (ℕ × ℕ) Cause
bracket_reading [] = Err CutShort
bracket_reading (b ∷ bytes) = cond (b == 94) (span_test others_test 6 (span_reading bytes)) (span_test range_test 5 (span_dash b bytes))

-- what letters read at the front of bytes: a test and how many bytes it takes, or why there is none
abbrev pub letter_reading : List ℕ → Result (ℕ × ℕ) Cause
letter_reading [] = Err CutShort
letter_reading (b ∷ bytes) =
    cond (b == 46) (Ok (range_test 0 255, 1))
    (cond (b == 92) (escaped_reading bytes) (cond (b == 91) (bracket_reading bytes) (Ok (range_test b b, 1))))
