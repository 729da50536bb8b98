-- What one more byte does to a number that is being read.
use Rattle.std.specs.Prelude.{◌≡◌, ℕ, ◌+◌, ◌-◌, ◌*◌, ◌<◌, ◌≤◌, cond, List, [], ◌∷◌, length, take, drop, IfOk, Ok, Err, Result, ◌==◌, nat_le, nat_lt, slice_index, refl}
use Rattle.std.proofs.Common.{sym, ap, ◌∙◌, add-one, arith, drop_of_length-le, drop-cons}
use Rattle.std.proofs.lemmas.List.{take_rest}
use Rattle.std.proofs.lemmas.Result.{IfOk-weaker}
use Rattle.std.proofs.lemmas.Bool.{cond_both}
use Rattle.alphabet.specs.declared.Cause.{Cause}
use Rattle.alphabet.specs.declared.Cause.TheVariants.{CutShort, OutOfRange, UnknownForm}
use Rattle.alphabet.specs.Readings.{UsesSome}
use Rattle.alphabet.specs.Words.{is_digit, number_end, number_from, number_reading, number_test, word_reading}

-- What one more byte makes of the number. (The check finds by itself what the two lemmas below and the last two of this file say; no
-- proof cites them.)
abbrev pub byte_reading : ℕ → ℕ → ℕ → ℕ → List ℕ → ℕ → Result (ℕ × ℕ) Cause
byte_reading most limit count value rest b =
    cond (is_digit b)
    (cond (nat_lt count most) (number_from most limit (count + 1) (value * 10 + (b - 48)) rest) (Err OutOfRange))
    (cond (b == 59) (number_end limit count value) (Err UnknownForm))

pub byte_decides : {r : Result (ℕ × ℕ) Cause} (most limit count value : ℕ) (bytes : List ℕ) → r ≡ number_from most limit count value (drop count bytes) → count < length bytes → r ≡ byte_reading most limit count value (drop (count + 1) bytes) (slice_index bytes count)
byte_decides most limit count value bytes so_far more = so_far ∙ rw (drop-cons bytes count 0, add-one count) refl

pub end_decides : {r : Result (ℕ × ℕ) Cause} (most limit count value : ℕ) (bytes : List ℕ) → r ≡ number_from most limit count value (drop count bytes) → length bytes ≤ count → Err CutShort ≡ r
end_decides most limit count value bytes so_far over = sym (so_far ∙ rw (drop_of_length-le bytes over) refl)

-- a number that was read leaves a byte for its ;
pub number_uses : (most limit count value : ℕ) (bytes : List ℕ) → IfOk (number_from most limit count value bytes) (λ n. n.1 < count + length bytes)
number_uses most limit count value [] = tt
number_uses most limit count value (b ∷ bytes) =
    let P : Result (ℕ × ℕ) Cause → Type 0 = λ r. IfOk r (λ n. n.1 < count + length (b ∷ bytes)) in
    let ih = number_uses most limit (count + 1) (value * 10 + (b - 48)) bytes in
    cond_both (is_digit b) _ _ P
    (λ _. cond_both (nat_lt count most) _ _ P (λ _. IfOk-weaker _ (λ n. n.1 < count + 1 + length bytes) (λ n. n.1 < count + length (b ∷ bytes)) (λ n h. omega arith) ih) (λ _. tt))
    (λ _. cond_both (b == 59) _ _ P
    (λ _. cond_both (count == 0) _ _ P (λ _. tt) (λ _. cond_both (nat_le value limit) _ _ P (λ _. omega arith) (λ _. tt)))
    (λ _. tt))

-- so a test takes some of the bytes
pub number_test_uses : (base b : ℕ) (bytes : List ℕ) (r : Result (ℕ × ℕ) Cause) → IfOk r (λ n. n.1 < 0 + length bytes) → IfOk (number_test base r) (UsesSome (b ∷ bytes))
number_test_uses base b bytes (Ok n) h = omega arith
number_test_uses base b bytes (Err cause) h = tt

pub word_uses : (bytes : List ℕ) → IfOk (word_reading bytes) (UsesSome bytes)
word_uses [] = tt
word_uses (b ∷ bytes) =
    let P : Result (ℕ × ℕ) Cause → Type 0 = λ r. IfOk r (UsesSome (b ∷ bytes)) in
    cond_both (b == 46) _ _ P (λ _. omega arith)
    (λ _. cond_both (b == 35) _ _ P (λ _. number_test_uses 65536 b bytes _ (number_uses 3 255 0 0 bytes))
    (λ _. cond_both (b == 64) _ _ P (λ _. number_test_uses 0 b bytes _ (number_uses 5 65535 0 0 bytes)) (λ _. tt)))

-- # and @ are followed by a number
pub after_kind : (bytes : List ℕ) → 1 ≤ length bytes → slice_index bytes 0 ≡ 35 → word_reading bytes ≡ number_test 65536 (number_reading 3 255 (take (length bytes - 1) (drop 1 bytes)))
after_kind [] some e = absurd (omega arith)
after_kind (b ∷ bytes) some e =
    rw e (ap (λ (xs : List ℕ). number_test 65536 (number_reading 3 255 xs)) (sym (take_rest (b ∷ bytes) 1)))

pub after_entry : (bytes : List ℕ) → 1 ≤ length bytes → slice_index bytes 0 ≡ 64 → word_reading bytes ≡ number_test 0 (number_reading 5 65535 (take (length bytes - 1) (drop 1 bytes)))
after_entry [] some e = absurd (omega arith)
after_entry (b ∷ bytes) some e =
    rw e (ap (λ (xs : List ℕ). number_test 0 (number_reading 5 65535 xs)) (sym (take_rest (b ∷ bytes) 1)))
