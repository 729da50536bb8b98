-- The forms in which letters are written, one by one, and what is wrong with bytes that are none.
-- The bytes that are named by number: 45 - 46 . 91 [ 92 \ 93 ] 94 ^
use Rattle.std.specs.Prelude.{◌≡◌, ℕ, ◌<◌, ◌≤◌, Bool, true, not, ◌&&◌, ◌≢◌, List, [], ◌∷◌, length, nat_eq, nat_le, slice_index}
use Rattle.alphabet.specs.declared.Cause.{Cause}
use Rattle.alphabet.specs.Readings.{ReadByForms}
use Rattle.alphabet.specs.declared.Cause.TheVariants.{CutShort, OutOfRange, UnknownForm}
use Rattle.alphabet.specs.Letters.{letter_meaning, letter_reading}

-- these bytes begin with a form that admits this set of bytes and takes so many bytes
pub data LetterForm : List ℕ → (ℕ → Bool) → ℕ → Type 0 where
  -- . admits every byte
  dot : (rest : List ℕ) → LetterForm (46 ∷ rest) (λ s. true) 1
  -- \b admits b alone, whatever b is
  escaped : (b : ℕ) (rest : List ℕ) → LetterForm (92 ∷ b ∷ rest) (λ s. nat_eq s b) 2
  -- [l-h] admits l to h, where l is not ^
  range : (low high : ℕ) (rest : List ℕ) → low ≢ 94 → low ≤ high → LetterForm (91 ∷ low ∷ 45 ∷ high ∷ 93 ∷ rest) (λ s. nat_le low s && nat_le s high) 5
  -- [^l-h] admits all but l to h
  others : (low high : ℕ) (rest : List ℕ) → low ≤ high → LetterForm (91 ∷ 94 ∷ low ∷ 45 ∷ high ∷ 93 ∷ rest) (λ s. not (nat_le low s && nat_le s high)) 6
  -- any other byte admits itself
  itself : (b : ℕ) (rest : List ℕ) → b ≢ 46 → b ≢ 92 → b ≢ 91 → LetterForm (b ∷ rest) (λ s. nat_eq s b) 1

-- what is wrong with bytes that should begin with l-h]
pub data SpanFault : List ℕ → Cause → Type 0 where
  no_low : SpanFault [] CutShort
  no_dash : (low : ℕ) → SpanFault (low ∷ []) CutShort
  no_high : (low : ℕ) → SpanFault (low ∷ 45 ∷ []) CutShort
  no_close : (low high : ℕ) → SpanFault (low ∷ 45 ∷ high ∷ []) CutShort
  other_dash : (low b : ℕ) (rest : List ℕ) → b ≢ 45 → SpanFault (low ∷ b ∷ rest) UnknownForm
  other_close : (low high b : ℕ) (rest : List ℕ) → b ≢ 93 → SpanFault (low ∷ 45 ∷ high ∷ b ∷ rest) UnknownForm
  upside_down : (low high : ℕ) (rest : List ℕ) → high < low → SpanFault (low ∷ 45 ∷ high ∷ 93 ∷ rest) OutOfRange

-- what is wrong with bytes that begin with no form
pub data LetterFault : List ℕ → Cause → Type 0 where
  no_first : LetterFault [] CutShort
  no_escaped : LetterFault (92 ∷ []) CutShort
  -- after a [ without a ^
  in_range : (bytes : List ℕ) (cause : Cause) → slice_index bytes 0 ≢ 94 → SpanFault bytes cause → LetterFault (91 ∷ bytes) cause
  -- after [^
  in_others : (bytes : List ℕ) (cause : Cause) → SpanFault bytes cause → LetterFault (91 ∷ 94 ∷ bytes) cause

-- these numbers are bytes
abbrev pub AreBytes : List ℕ → Type 0
AreBytes bytes = (k : ℕ) → k < length bytes → slice_index bytes k < 256

-- the test admits the bytes of this set and no others
abbrev pub MeansLetters : ℕ → (ℕ → Bool) → Type 0
MeansLetters test admitted = (s : ℕ) → s < 256 → letter_meaning test s ≡ admitted s

-- of any bytes, letters read exactly their forms
abbrev pub LettersReadTheirForms : Type 0
LettersReadTheirForms = (bytes : List ℕ) → AreBytes bytes → ReadByForms LetterForm LetterFault MeansLetters letter_reading bytes
