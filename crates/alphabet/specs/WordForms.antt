-- The forms in which words are written, one by one, and what is wrong with bytes that are none.
-- The bytes that are named by number: 35 # 46 . 48 0 57 9 59 ; 64 @
use Rattle.std.specs.Prelude.{◌≡◌, ℕ, ◌+◌, ◌-◌, ◌*◌, ◌/◌, ◌%◌, ◌<◌, ◌≤◌, Bool, true, ◌≢◌, List, [], ◌∷◌, ◌++◌, length, nat_eq}
use Rattle.alphabet.specs.declared.Cause.{Cause}
use Rattle.alphabet.specs.Readings.{ReadByForms}
use Rattle.alphabet.specs.declared.Cause.TheVariants.{CutShort, OutOfRange, UnknownForm}
use Rattle.alphabet.specs.Words.{word_meaning, word_reading}

-- the byte is a digit, 0 to 9
abbrev pub Digit : ℕ → Type 0
Digit b = (48 ≤ b) × (b ≤ 57)

-- each of these bytes is a digit
abbrev pub Digits : List ℕ → Type 0
Digits [] = Unit {0}
Digits (d ∷ ds) = Digit d × Digits ds

-- the value of digits, the first counting most, after others of this value
abbrev pub value_from : ℕ → List ℕ → ℕ
value_from before [] = before
value_from before (d ∷ ds) = value_from (before * 10 + (d - 48)) ds

-- the value of digits, the first counting most
abbrev pub value : List ℕ → ℕ
value ds = value_from 0 ds

-- a number of one to so many digits, up to a limit
pub record Number (most limit : ℕ) (ds : List ℕ) : Type 0 where
  pub digits : Digits ds
  pub some : 1 ≤ length ds
  pub few : length ds ≤ most
  pub small : value ds ≤ limit

-- these bytes begin with a form that admits this set of words and takes so many bytes
pub data WordForm : List ℕ → (ℕ → Bool) → ℕ → Type 0 where
  -- . admits every word
  any : (rest : List ℕ) → WordForm (46 ∷ rest) (λ s. true) 1
  -- #k; admits the words of kind k
  kind : (ds rest : List ℕ) → Number 3 255 ds → WordForm (35 ∷ (ds ++ (59 ∷ rest))) (λ s. nat_eq (s / 65536) (value ds)) (length ds + 2)
  -- @e; admits the words of entry e
  entry : (ds rest : List ℕ) → Number 5 65535 ds → WordForm (64 ∷ (ds ++ (59 ∷ rest))) (λ s. nat_eq (s % 65536) (value ds)) (length ds + 2)

-- what is wrong with bytes that should begin with such a number and a ;
pub data NumberFault (most limit : ℕ) : List ℕ → Cause → Type 0 where
  -- the bytes end before the ;
  no_end : (ds : List ℕ) → Digits ds → length ds ≤ most → NumberFault most limit ds CutShort
  -- one digit too many
  too_long : (ds rest : List ℕ) → Digits ds → length ds ≡ most + 1 → NumberFault most limit (ds ++ rest) OutOfRange
  -- a value above the limit
  too_large : (ds rest : List ℕ) → Digits ds → length ds ≤ most → limit < value ds → NumberFault most limit (ds ++ (59 ∷ rest)) OutOfRange
  -- a ; without digits
  no_digit : (rest : List ℕ) → NumberFault most limit (59 ∷ rest) UnknownForm
  -- a byte that is neither a digit nor a ;
  other_byte : (ds : List ℕ) (b : ℕ) (rest : List ℕ) → Digits ds → length ds ≤ most → (Digit b → ⊥) → b ≢ 59 → NumberFault most limit (ds ++ (b ∷ rest)) UnknownForm

-- what is wrong with bytes that begin with no form
pub data WordFault : List ℕ → Cause → Type 0 where
  no_first : WordFault [] CutShort
  in_kind : (bytes : List ℕ) (cause : Cause) → NumberFault 3 255 bytes cause → WordFault (35 ∷ bytes) cause
  in_entry : (bytes : List ℕ) (cause : Cause) → NumberFault 5 65535 bytes cause → WordFault (64 ∷ bytes) cause
  other_first : (b : ℕ) (rest : List ℕ) → b ≢ 46 → b ≢ 35 → b ≢ 64 → WordFault (b ∷ rest) UnknownForm

-- the test admits the words of this set and no others
abbrev pub MeansWords : ℕ → (ℕ → Bool) → Type 0
MeansWords test admitted = (s : ℕ) → word_meaning test s ≡ admitted s

-- of any bytes, words read exactly their forms
abbrev pub WordsReadTheirForms : Type 0
WordsReadTheirForms = (bytes : List ℕ) → ReadByForms WordForm WordFault MeansWords word_reading bytes
