-- Letters are read by their forms, and refused by their faults.
use Rattle.std.proofs.Common.{◌≡◌, ℕ, ◌+◌, ◌-◌, ◌/◌, ◌%◌, ◌^◌, ◌<◌, ◌≤◌, Bool, true, not, ◌&&◌, eqb, leb, ◌≢◌, List, [], ◌∷◌, get_or, Ok, Err, Result, sym, refl, ◌∙◌, subst, arith}
use Rattle.std.proofs.lemmas.Bool.{cond_both, eqb-true, eqb-false, leb-true, leb-false, le-leb, lt-leb, lt-ltb, ne_eqb}
use Rattle.std.proofs.lemmas.Bool.Decides.{nat_tests}
use Rattle.alphabet.specs.declared.Cause.{Cause}
use Rattle.alphabet.specs.declared.Cause.TheVariants.{CutShort}
use Rattle.alphabet.specs.Letters.{above, letter_reading, range_test, others_test, span_reading, span_test, escaped_reading, bracket_reading}
use Rattle.alphabet.specs.LetterForms.{LetterForm, dot, escaped, range, others, itself, SpanFault, no_low, no_dash, no_high, no_close, other_dash, other_close, upside_down, LetterFault, no_first, no_escaped, in_range, in_others, AreBytes, MeansLetters, LettersReadTheirForms}

-- what the tests mean

dot_means : MeansLetters (range_test 0 255) (λ s. true)
dot_means s below = lt-ltb _ _ (omega arith)

range_means : (low high : ℕ) → low < 256 → high < 256 → low ≤ high → MeansLetters (range_test low high) (λ s. leb low s && leb s high)
range_means low high l h order s below =
    let lower : range_test low high % 256 ≡ low = omega arith in
    let round : (high + 256 - low) / 256 ≡ 1 = omega arith in
    let apart : above low high ≡ high - low = omega (arith, round) in
    let upper : range_test low high / 256 ≡ high - low + 1 = omega (arith, apart) in
    rw (lower, upper) (grind (arith, nat_tests))

others_means : (low high : ℕ) → low < 256 → high < 256 → low ≤ high → MeansLetters (others_test low high) (λ s. not (leb low s && leb s high))
others_means low high l h order s below =
    let lower : others_test low high % 256 ≡ (high + 1) % 256 = omega arith in
    let upper : others_test low high / 256 ≡ 255 - (high - low) = omega arith in
    rw (lower, upper) (grind (arith, nat_tests))

itself_means : (b : ℕ) → b < 256 → MeansLetters (range_test b b) (λ s. eqb s b)
itself_means b l s below =
    let same : (leb b s && leb s b) ≡ eqb s b = grind (arith, nat_tests) in
    range_means b b l l (omega arith) s below ∙ same

-- each form is read

form_read : (bytes : List ℕ) (admitted : ℕ → Bool) (used : ℕ) → LetterForm bytes admitted used → AreBytes bytes → (test : ℕ) × (letter_reading bytes ≡ Ok (test, used)) × MeansLetters test admitted
form_read bytes admitted used (dot rest) small = (range_test 0 255, refl, dot_means)
form_read bytes admitted used (escaped b rest) small = (range_test b b, refl, itself_means b (small 1 (omega arith)))
form_read bytes admitted used (range low high rest plain order) small =
    (range_test low high, rw (ne_eqb low 94 plain, le-leb low high order) refl, range_means low high (small 1 (omega arith)) (small 3 (omega arith)) order)
form_read bytes admitted used (others low high rest order) small =
    (others_test low high, rw (le-leb low high order) refl, others_means low high (small 2 (omega arith)) (small 4 (omega arith)) order)
form_read bytes admitted used (itself b rest p q r) small =
    (range_test b b, rw (ne_eqb b 46 p, ne_eqb b 92 q, ne_eqb b 91 r) refl, itself_means b (small 0 (omega arith)))

-- each fault is refused

span_refused : (bytes : List ℕ) (cause : Cause) → SpanFault bytes cause → span_reading bytes ≡ Err cause
span_refused bytes cause no_low = refl
span_refused bytes cause (no_dash low) = refl
span_refused bytes cause (no_high low) = refl
span_refused bytes cause (no_close low high) = refl
span_refused bytes cause (other_dash low b rest p) = rw (ne_eqb b 45 p) refl
span_refused bytes cause (other_close low high b rest p) = rw (ne_eqb b 93 p) refl
span_refused bytes cause (upside_down low high rest p) = rw (lt-leb low high p) refl

-- after a [ without a ^ a span is read
plain_bracket : (bytes : List ℕ) → get_or bytes 0 0 ≢ 94 → bracket_reading bytes ≡ span_test range_test 5 (span_reading bytes)
plain_bracket [] p = refl
plain_bracket (b ∷ bytes) p = rw (ne_eqb b 94 p) refl

fault_refused : (bytes : List ℕ) (cause : Cause) → LetterFault bytes cause → letter_reading bytes ≡ Err cause
fault_refused bytes cause no_first = refl
fault_refused bytes cause no_escaped = refl
fault_refused bytes cause (in_range rest c p f) = rw (plain_bracket rest p, span_refused rest c f) refl
fault_refused bytes cause (in_others rest c f) = rw (span_refused rest c f) refl

-- whatever is answered, there is a form or a fault for it

abbrev Told : List ℕ → Result (ℕ × ℕ) Cause → Type 0
Told bytes (Ok read) = (read.0 < 2 ^ 32) × ((admitted : ℕ → Bool) × LetterForm bytes admitted read.1 × MeansLetters read.0 admitted)
Told bytes (Err cause) = LetterFault bytes cause

abbrev SpanTold : List ℕ → Result (ℕ × ℕ) Cause → Type 0
SpanTold bytes (Ok limits) = (rest : List ℕ) × (bytes ≡ limits.0 ∷ 45 ∷ limits.1 ∷ 93 ∷ rest) × (limits.0 ≤ limits.1)
SpanTold bytes (Err cause) = SpanFault bytes cause

span_told : (bytes : List ℕ) → SpanTold bytes (span_reading bytes)
span_told [] = no_low
span_told (low ∷ []) = no_dash low
span_told (low ∷ b ∷ []) =
    cond_both (eqb b 45) _ _ (SpanTold (low ∷ b ∷ []))
    (λ e. rw (eqb-true b 45 e) (no_high low)) (λ e. other_dash low b [] (eqb-false b 45 e))
span_told (low ∷ b ∷ high ∷ []) =
    cond_both (eqb b 45) _ _ (SpanTold (low ∷ b ∷ high ∷ []))
    (λ e. rw (eqb-true b 45 e) (no_close low high)) (λ e. other_dash low b (high ∷ []) (eqb-false b 45 e))
span_told (low ∷ b ∷ high ∷ d ∷ rest) =
    cond_both (eqb b 45) _ _ (SpanTold (low ∷ b ∷ high ∷ d ∷ rest))
    (λ e. rw (eqb-true b 45 e) (cond_both (eqb d 93) _ _ (SpanTold (low ∷ 45 ∷ high ∷ d ∷ rest))
    (λ h. rw (eqb-true d 93 h) (cond_both (leb low high) _ _ (SpanTold (low ∷ 45 ∷ high ∷ 93 ∷ rest))
    (λ o. (rest, refl, leb-true low high o)) (λ o. upside_down low high rest (leb-false low high o))))
    (λ h. other_close low high d rest (eqb-false d 93 h))))
    (λ e. other_dash low b (high ∷ d ∷ rest) (eqb-false b 45 e))

range_found : (low high : ℕ) (rest : List ℕ) → low ≤ high → AreBytes (91 ∷ low ∷ 45 ∷ high ∷ 93 ∷ rest) → low ≢ 94 → Told (91 ∷ low ∷ 45 ∷ high ∷ 93 ∷ rest) (Ok (range_test low high, 5))
range_found low high rest order small plain =
    let l : low < 256 = small 1 (omega arith) in
    let h : high < 256 = small 3 (omega arith) in
    (omega arith, ((λ s. leb low s && leb s high), range low high rest plain order, range_means low high l h order))

others_found : (low high : ℕ) (rest : List ℕ) → low ≤ high → AreBytes (91 ∷ 94 ∷ low ∷ 45 ∷ high ∷ 93 ∷ rest) → Told (91 ∷ 94 ∷ low ∷ 45 ∷ high ∷ 93 ∷ rest) (Ok (others_test low high, 6))
others_found low high rest order small =
    let l : low < 256 = small 2 (omega arith) in
    let h : high < 256 = small 4 (omega arith) in
    (omega arith, ((λ s. not (leb low s && leb s high)), others low high rest order, others_means low high l h order))

itself_found : (b : ℕ) (bytes : List ℕ) (used : ℕ) → b < 256 → LetterForm bytes (λ s. eqb s b) used → Told bytes (Ok (range_test b b, used))
itself_found b bytes used small form = (omega arith, ((λ s. eqb s b), form, itself_means b small))

dot_found : (rest : List ℕ) → Told (46 ∷ rest) (Ok (range_test 0 255, 1))
dot_found rest = (omega arith, ((λ s. true), dot rest, dot_means))

range_told : (bytes : List ℕ) (r : Result (ℕ × ℕ) Cause) → SpanTold bytes r → AreBytes (91 ∷ bytes) → get_or bytes 0 0 ≢ 94 → Told (91 ∷ bytes) (span_test range_test 5 r)
range_told bytes (Ok limits) t =
    let P : List ℕ → Type 0 = λ bs. AreBytes (91 ∷ bs) → get_or bs 0 0 ≢ 94 → Told (91 ∷ bs) (span_test range_test 5 (Ok limits)) in
    subst P (sym t.1) (range_found limits.0 limits.1 t.0 t.2)
range_told bytes (Err cause) f = λ small plain. in_range bytes cause plain f

others_told : (bytes : List ℕ) (r : Result (ℕ × ℕ) Cause) → SpanTold bytes r → AreBytes (91 ∷ 94 ∷ bytes) → Told (91 ∷ 94 ∷ bytes) (span_test others_test 6 r)
others_told bytes (Ok limits) t =
    let P : List ℕ → Type 0 = λ bs. AreBytes (91 ∷ 94 ∷ bs) → Told (91 ∷ 94 ∷ bs) (span_test others_test 6 (Ok limits)) in
    subst P (sym t.1) (others_found limits.0 limits.1 t.0 t.2)
others_told bytes (Err cause) f = λ small. in_others bytes cause f

escaped_told : (bytes : List ℕ) → AreBytes (92 ∷ bytes) → Told (92 ∷ bytes) (escaped_reading bytes)
escaped_told [] small = no_escaped
escaped_told (b ∷ rest) small = itself_found b (92 ∷ b ∷ rest) 2 (small 1 (omega arith)) (escaped b rest)

bracket_told : (bytes : List ℕ) → AreBytes (91 ∷ bytes) → Told (91 ∷ bytes) (bracket_reading bytes)
bracket_told [] small = in_range [] CutShort (omega arith) no_low
bracket_told (b ∷ rest) small =
    cond_both (eqb b 94) _ _ (Told (91 ∷ b ∷ rest))
    (λ e.
    let P : ℕ → Type 0 = λ n. AreBytes (91 ∷ n ∷ rest) → Told (91 ∷ n ∷ rest) (span_test others_test 6 (span_reading rest)) in
    subst P (sym (eqb-true b 94 e)) (others_told rest (span_reading rest) (span_told rest)) small)
    (λ e. range_told (b ∷ rest) (span_reading (b ∷ rest)) (span_told (b ∷ rest)) small (eqb-false b 94 e))

told : (bytes : List ℕ) → AreBytes bytes → Told bytes (letter_reading bytes)
told [] small = no_first
told (b ∷ rest) small =
    let P : Result (ℕ × ℕ) Cause → Type 0 = Told (b ∷ rest) in
    let at : (n : ℕ) (r : Result (ℕ × ℕ) Cause) → eqb b n ≡ true → (AreBytes (n ∷ rest) → Told (n ∷ rest) r) → P r =
    λ n r e f.
    let Q : ℕ → Type 0 = λ k. AreBytes (k ∷ rest) → Told (k ∷ rest) r in
    subst Q (sym (eqb-true b n e)) f small in
    cond_both (eqb b 46) _ _ P (λ e. at 46 (Ok (range_test 0 255, 1)) e (λ _. dot_found rest))
    (λ p. cond_both (eqb b 92) _ _ P (λ e. at 92 (escaped_reading rest) e (escaped_told rest))
    (λ q. cond_both (eqb b 91) _ _ P (λ e. at 91 (bracket_reading rest) e (bracket_told rest))
    (λ r. itself_found b (b ∷ rest) 1 (small 0 (omega arith)) (itself b rest (eqb-false b 46 p) (eqb-false b 92 q) (eqb-false b 91 r)))))

pub letters_read_their_forms : LettersReadTheirForms
letters_read_their_forms bytes small =
    record {
      is_form = λ test used e. subst (Told bytes) e (told bytes small);
      form_is_read = λ admitted used form. form_read bytes admitted used form small;
      is_fault = λ cause e. subst (Told bytes) e (told bytes small);
      fault_is_refused = fault_refused bytes;
    }
