-- Words are read by their forms, and refused by their faults.
use Rattle.std.proofs.Common.{◌≡◌, ℕ, ◌+◌, ◌-◌, ◌*◌, ◌/◌, ◌%◌, ◌^◌, ◌<◌, ◌≤◌, Bool, true, false, eqb, ltb, leb, ◌≢◌, List, [], ◌∷◌, ◌++◌, length, Ok, Err, Result, sym, refl, ap, ◌∙◌, subst, ⊎_elim, append_assoc, append-nil, add-zero, zero-add, arith, length-append}
use Rattle.std.proofs.lemmas.Bool.{cases_Bool, cond_both, eqb-true, eqb-false, leb-true, leb-false, ltb-true, ltb-false, le-leb, lt-leb, lt-ltb, le-ltb, ne_eqb}
use Rattle.std.proofs.lemmas.Bool.Decides.{nat_tests}
use Rattle.alphabet.specs.declared.Cause.{Cause}
use Rattle.alphabet.specs.declared.Cause.TheVariants.{OutOfRange}
use Rattle.alphabet.specs.Words.{is_digit, number_end, number_from, number_reading, number_test, word_reading}
use Rattle.alphabet.specs.WordForms.{Digit, Digits, value_from, value, Number, WordForm, any, kind, entry, NumberFault, no_end, too_long, too_large, no_digit, other_byte, WordFault, no_first, in_kind, in_entry, other_first, MeansWords, WordsReadTheirForms}

-- digits as the reading tests them

digit_true : (b : ℕ) → Digit b → is_digit b ≡ true
digit_true b d = grind (arith, nat_tests)

is_digit_lem : (b : ℕ) → is_digit b ≡ true → Digit b
is_digit_lem b e = grind (arith, nat_tests)

is_no_digit : (b : ℕ) → is_digit b ≡ false → Digit b → ⊥
is_no_digit b e d = grind (arith, nat_tests)

digit_false : (b : ℕ) → (Digit b → ⊥) → is_digit b ≡ false
digit_false b n = ⊎_elim (λ e. absurd (n (is_digit_lem b e))) (λ e. e) (cases_Bool (is_digit b))

-- what the tests mean

any_means : MeansWords 131072 (λ s. true)
any_means s = refl

kind_means : (k : ℕ) → k ≤ 255 → MeansWords (k + 65536) (λ s. eqb (s / 65536) k)
kind_means k small s =
    let large : ltb (k + 65536) 65536 ≡ false = le-ltb _ _ (omega arith) in
    let below : ltb (k + 65536) 131072 ≡ true = lt-ltb _ _ (omega arith) in
    let back : k + 65536 - 65536 ≡ k = omega arith in
    rw (large, below, back) refl

entry_means : (e : ℕ) → e ≤ 65535 → MeansWords (e + 0) (λ s. eqb (s % 65536) e)
entry_means e small s =
    let below : ltb (e + 0) 65536 ≡ true = lt-ltb _ _ (omega arith) in
    rw (below, add-zero e) refl

-- digits that are not too many are read one by one
digits_read : (most limit count before : ℕ) (ds tail : List ℕ) → Digits ds → count + length ds ≤ most → number_from most limit count before (ds ++ tail) ≡ number_from most limit (count + length ds) (value_from before ds) tail
digits_read most limit count before [] tail digits few = rw add-zero refl
digits_read most limit count before (d ∷ ds) tail digits few =
    let is : is_digit d ≡ true = digit_true d digits.0 in
    let room : ltb count most ≡ true = lt-ltb count most (omega arith) in
    let same : count + 1 + length ds ≡ count + length (d ∷ ds) = omega arith in
    rw (is, room) (digits_read most limit (count + 1) (before * 10 + (d - 48)) ds tail digits.1 (omega arith) ∙ rw same refl)

-- and one more is refused
long_refused : (most limit count before : ℕ) (ds tail : List ℕ) → Digits ds → count + length ds ≡ most + 1 → count ≤ most → number_from most limit count before (ds ++ tail) ≡ Err OutOfRange
long_refused most limit count before [] tail digits long room = absurd (omega arith)
long_refused most limit count before (d ∷ ds) tail digits long room =
    let is : is_digit d ≡ true = digit_true d digits.0 in
    rw is (cond_both (ltb count most) _ _ (λ (r : Result (ℕ × ℕ) Cause). r ≡ Err OutOfRange)
    (λ e. let below : count < most = ltb-true count most e in long_refused most limit (count + 1) (before * 10 + (d - 48)) ds tail digits.1 (omega arith) (omega arith))
    (λ e. refl))

-- each form is read

number_read : (most limit : ℕ) (ds rest : List ℕ) → Number most limit ds → number_reading most limit (ds ++ (59 ∷ rest)) ≡ Ok (value ds, length ds)
number_read most limit ds rest number =
    let some : eqb (length ds) 0 ≡ false = ne_eqb (length ds) 0 (omega arith) in
    let small : leb (value ds) limit ≡ true = le-leb (value ds) limit number.small in
    digits_read most limit 0 0 ds (59 ∷ rest) number.digits (omega arith) ∙ rw (zero-add, some, small) refl

form_read : (bytes : List ℕ) (admitted : ℕ → Bool) (used : ℕ) → WordForm bytes admitted used → (test : ℕ) × (word_reading bytes ≡ Ok (test, used)) × MeansWords test admitted
form_read bytes admitted used (any rest) = (131072, refl, any_means)
form_read bytes admitted used (kind ds rest number) =
    (value ds + 65536, rw (number_read 3 255 ds rest number) refl, kind_means (value ds) number.small)
form_read bytes admitted used (entry ds rest number) =
    (value ds + 0, rw (number_read 5 65535 ds rest number) refl, entry_means (value ds) number.small)

-- each fault is refused

large_some : (limit : ℕ) (ds : List ℕ) → limit < value ds → length ds ≢ 0
large_some limit [] large e = omega arith
large_some limit (d ∷ ds) large e = omega arith

number_refused : (most limit : ℕ) (bytes : List ℕ) (cause : Cause) → NumberFault most limit bytes cause → number_reading most limit bytes ≡ Err cause
number_refused most limit bytes cause (no_end ds digits few) =
    ap (number_reading most limit) (sym (append-nil ds)) ∙ digits_read most limit 0 0 ds [] digits (omega arith)
number_refused most limit bytes cause (too_long ds rest digits long) = long_refused most limit 0 0 ds rest digits (omega arith) (omega arith)
number_refused most limit bytes cause (too_large ds rest digits few large) =
    let some : eqb (length ds) 0 ≡ false = ne_eqb (length ds) 0 (large_some limit ds large) in
    let over : leb (value ds) limit ≡ false = lt-leb (value ds) limit large in
    digits_read most limit 0 0 ds (59 ∷ rest) digits (omega arith) ∙ rw (zero-add, some, over) refl
number_refused most limit bytes cause (no_digit rest) = refl
number_refused most limit bytes cause (other_byte ds b rest digits few no_digit_b no_end_b) =
    digits_read most limit 0 0 ds (b ∷ rest) digits (omega arith) ∙ rw (digit_false b no_digit_b, ne_eqb b 59 no_end_b) refl

fault_refused : (bytes : List ℕ) (cause : Cause) → WordFault bytes cause → word_reading bytes ≡ Err cause
fault_refused bytes cause no_first = refl
fault_refused bytes cause (in_kind rest c f) = rw (number_refused 3 255 rest c f) refl
fault_refused bytes cause (in_entry rest c f) = rw (number_refused 5 65535 rest c f) refl
fault_refused bytes cause (other_first b rest p q r) = rw (ne_eqb b 46 p, ne_eqb b 35 q, ne_eqb b 64 r) refl

-- one more digit

digits_more : (ds : List ℕ) (d : ℕ) → Digits ds → Digit d → Digits (ds ++ (d ∷ []))
digits_more [] d digits is = (is, tt)
digits_more (e ∷ ds) d digits is = (digits.0, digits_more ds d digits.1 is)

value_more : (before : ℕ) (ds : List ℕ) (d : ℕ) → value_from before (ds ++ (d ∷ [])) ≡ value_from before ds * 10 + (d - 48)
value_more before [] d = refl
value_more before (e ∷ ds) d = value_more (before * 10 + (e - 48)) ds d

-- whatever is answered, there is a number or a fault for it

abbrev NumberTold : ℕ → ℕ → List ℕ → Result (ℕ × ℕ) Cause → Type 0
NumberTold most limit bytes (Ok read) = (ds : List ℕ) × (rest : List ℕ) × Number most limit ds × (bytes ≡ ds ++ (59 ∷ rest)) × (read ≡ (value ds, length ds))
NumberTold most limit bytes (Err cause) = NumberFault most limit bytes cause

end_told : (most limit : ℕ) (ds rest : List ℕ) → Digits ds → length ds ≤ most → NumberTold most limit (ds ++ (59 ∷ rest)) (number_end limit (length ds) (value ds))
end_told most limit [] rest digits few = no_digit rest
end_told most limit (d ∷ ds) rest digits few =
    let some : eqb (length (d ∷ ds)) 0 ≡ false = ne_eqb (length (d ∷ ds)) 0 (omega arith) in
    rw some (cond_both (leb (value (d ∷ ds)) limit) _ _ (NumberTold most limit (d ∷ ds ++ (59 ∷ rest)))
    (λ e. (d ∷ ds, rest, record { digits = digits; some = omega arith; few = few; small = leb-true _ _ e }, refl, refl))
    (λ e. too_large (d ∷ ds) rest digits few (leb-false _ _ e)))

-- after the digits ds come bytes
number_told : (most limit : ℕ) (ds bytes : List ℕ) → Digits ds → length ds ≤ most → NumberTold most limit (ds ++ bytes) (number_from most limit (length ds) (value ds) bytes)
number_told most limit ds [] digits few = rw append-nil (no_end ds digits few)
number_told most limit ds (b ∷ bytes) digits few =
    let P : Result (ℕ × ℕ) Cause → Type 0 = NumberTold most limit (ds ++ (b ∷ bytes)) in
    let whole : (ds ++ (b ∷ [])) ++ bytes ≡ ds ++ (b ∷ bytes) = append_assoc ds (b ∷ []) bytes in
    let count : length (ds ++ (b ∷ [])) ≡ length ds + 1 = length-append ds (b ∷ []) in
    cond_both (is_digit b) _ _ P
    (λ is.
    let digits' : Digits (ds ++ (b ∷ [])) = digits_more ds b digits (is_digit_lem b is) in
    cond_both (ltb (length ds) most) _ _ P
    (λ e.
    let below : length ds < most = ltb-true (length ds) most e in
    rw (whole, count, value_more 0 ds b) at (number_told most limit (ds ++ (b ∷ [])) bytes digits' (omega arith)))
    (λ e.
    let full : most ≤ length ds = ltb-false (length ds) most e in
    let fault : NumberFault most limit ((ds ++ (b ∷ [])) ++ bytes) OutOfRange = too_long (ds ++ (b ∷ [])) bytes digits' (omega arith) in
    rw whole at fault))
    (λ other. cond_both (eqb b 59) _ _ P
    (λ e. rw (eqb-true b 59 e) (end_told most limit ds bytes digits few))
    (λ e. other_byte ds b bytes digits few (is_no_digit b other) (eqb-false b 59 e)))

abbrev Told : List ℕ → Result (ℕ × ℕ) Cause → Type 0
Told bytes (Ok read) = (read.0 < 2 ^ 32) × ((admitted : ℕ → Bool) × WordForm bytes admitted read.1 × MeansWords read.0 admitted)
Told bytes (Err cause) = WordFault bytes cause

kind_found : (ds rest : List ℕ) → Number 3 255 ds → Told (35 ∷ (ds ++ (59 ∷ rest))) (Ok (value ds + 65536, length ds + 2))
kind_found ds rest number =
    let small : value ds ≤ 255 = number.small in
    (omega arith, ((λ s. eqb (s / 65536) (value ds)), kind ds rest number, kind_means (value ds) small))

entry_found : (ds rest : List ℕ) → Number 5 65535 ds → Told (64 ∷ (ds ++ (59 ∷ rest))) (Ok (value ds + 0, length ds + 2))
entry_found ds rest number =
    let small : value ds ≤ 65535 = number.small in
    (omega arith, ((λ s. eqb (s % 65536) (value ds)), entry ds rest number, entry_means (value ds) small))

kind_told : (bytes : List ℕ) (r : Result (ℕ × ℕ) Cause) → NumberTold 3 255 bytes r → Told (35 ∷ bytes) (number_test 65536 r)
kind_told bytes (Ok read) t = rw (t.3, t.4) (kind_found t.0 t.1 t.2)
kind_told bytes (Err cause) f = in_kind bytes cause f

entry_told : (bytes : List ℕ) (r : Result (ℕ × ℕ) Cause) → NumberTold 5 65535 bytes r → Told (64 ∷ bytes) (number_test 0 r)
entry_told bytes (Ok read) t = rw (t.3, t.4) (entry_found t.0 t.1 t.2)
entry_told bytes (Err cause) f = in_entry bytes cause f

any_told : (rest : List ℕ) → Told (46 ∷ rest) (Ok (131072, 1))
any_told rest = (omega arith, ((λ s. true), any rest, any_means))

told : (bytes : List ℕ) → Told bytes (word_reading bytes)
told [] = no_first
told (b ∷ rest) =
    let P : Result (ℕ × ℕ) Cause → Type 0 = Told (b ∷ rest) in
    let at : (n : ℕ) (r : Result (ℕ × ℕ) Cause) → eqb b n ≡ true → Told (n ∷ rest) r → P r =
    λ n r e t. subst (λ (k : ℕ). Told (k ∷ rest) r) (sym (eqb-true b n e)) t in
    cond_both (eqb b 46) _ _ P (λ e. at 46 (Ok (131072, 1)) e (any_told rest))
    (λ p. cond_both (eqb b 35) _ _ P (λ e. at 35 (number_test 65536 (number_reading 3 255 rest)) e (kind_told rest _ (number_told 3 255 [] rest tt (omega arith))))
    (λ q. cond_both (eqb b 64) _ _ P (λ e. at 64 (number_test 0 (number_reading 5 65535 rest)) e (entry_told rest _ (number_told 5 65535 [] rest tt (omega arith))))
    (λ r. other_first b rest (eqb-false b 46 p) (eqb-false b 35 q) (eqb-false b 64 r))))

pub words_read_their_forms : WordsReadTheirForms
words_read_their_forms bytes =
    record {
      is_form = λ test used e. subst (Told bytes) e (told bytes);
      form_is_read = form_read bytes;
      is_fault = λ cause e. subst (Told bytes) e (told bytes);
      fault_is_refused = fault_refused bytes;
    }
