-- Sets of the tests that admit a symbol.
use Rattle.std.proofs.Common.{◌≡◌, ℕ, zero, suc, ◌+◌, ◌*◌, ◌/◌, ◌%◌, ◌^◌, ◌<◌, ◌≤◌, Bool, true, false, cond, ◌&&◌, eqb, ltb, List, [], ◌∷◌, ◌++◌, length, min, get_or, take, get_or-take, sym, refl, ap, ◌∙◌, subst, inl, inr, arith, append_assoc, length-append, length-take}
use lib.Bits.{bit_or}
use Rattle.std.specs.List.{push}
use Rattle.std.proofs.lemmas.Nat.{pow-add, shr-shr, div-mul-add, shl_whole, or_shifted}
use Rattle.std.proofs.lemmas.Bool.{lt-ltb, le-ltb, eq-eqb, ne_eqb, cases_lt}
use mir.Val.{bool_byte}
use Rattle.automaton.specs.Bit.{bit}
use Rattle.automaton.proofs.BitTests.{bit_none}
use Rattle.asking.specs.RowTables.{RowOf, WithTest, RowsOf}

byte_small : (b : Bool) → bool_byte b < 2
byte_small true = omega arith
byte_small false = omega arith

byte_shown : (row : ℕ) (b : Bool) → bit (row * 2 + bool_byte b) 0 ≡ b
byte_shown row true = eq-eqb _ _ (omega arith)
byte_shown row false = ne_eqb _ _ (omega arith)

one_more : (k n : ℕ) → ltb k n ≡ ltb (suc k) (n + 1)
one_more k n = elim (cases_lt k n) [
  | inl below ↦ lt-ltb k n below ∙ sym (lt-ltb (suc k) (n + 1) (omega arith))
  | inr above ↦ le-ltb k n above ∙ sym (le-ltb (suc k) (n + 1) (omega arith))
]

-- one test before the others
row_before : (p : ℕ → Bool) (n row : ℕ) → RowOf (λ k. p (k + 1)) n row → RowOf p (n + 1) (row * 2 + bool_byte (p 0))
row_before p n row r zero =
    byte_shown row (p 0) ∙ sym (ap (λ b. b && p 0) (lt-ltb 0 (n + 1) (omega arith)))
row_before p n row r (suc k) =
    let half : (row * 2 + bool_byte (p 0)) / 2 ^ 1 ≡ row = div-mul-add row 2 (bool_byte (p 0)) (byte_small (p 0)) in
    let on : (row * 2 + bool_byte (p 0)) / 2 ^ (1 + k) ≡ row / 2 ^ k = sym (shr-shr (row * 2 + bool_byte (p 0)) 1 k) ∙ ap (λ x. x / 2 ^ k) half in
    let next : 1 + k ≡ suc k = omega arith in
    ap (λ j. bit (row * 2 + bool_byte (p 0)) j) (sym next)
    ∙ ap (λ x. eqb (x % 2) 1) on
    ∙ r k
    ∙ ap (λ b. b && p (k + 1)) (one_more k n)
    ∙ ap (λ j. ltb (suc k) (n + 1) && p j) (omega arith)

-- the row of the codes of a list, all of which have a place in it
abbrev pub RowOfCodes : (ℕ → Bool) → List ℕ → ℕ → Type 0
RowOfCodes admits codes row = (row < 2 ^ length codes) × RowOf (λ k. admits (get_or codes k 0)) (length codes) row

pub no_codes : (admits : ℕ → Bool) → RowOfCodes admits [] 0
no_codes admits = (omega arith, λ k. bit_none k ∙ sym (ap (λ b. b && admits (get_or [] k 0)) (le-ltb k 0 (omega arith))))

-- one code before the others
pub code_before : (admits : ℕ → Bool) (code : ℕ) (codes : List ℕ) (row : ℕ) → length codes < 64 → RowOfCodes admits codes row → RowOfCodes admits (code ∷ codes) (bit_or ((row * 2) % 2 ^ 64) (bool_byte (admits code)))
code_before admits code codes row few (small, r) =
    let m = length codes in
    let b = bool_byte (admits code) in
    let longer : length (code ∷ codes) ≡ m + 1 = omega arith in
    let is : bit_or ((row * 2) % 2 ^ 64) b ≡ row * 2 + b = ap (λ x. bit_or x b) (shl_whole row m 1 64 small (omega arith)) ∙ or_shifted row 1 b (byte_small (admits code)) in
    let power : 2 ^ length (code ∷ codes) ≡ 2 ^ m * 2 ^ 1 = ap (λ x. 2 ^ x) longer ∙ pow-add 2 m 1 in
    let rest : RowOf (λ j. admits (get_or (code ∷ codes) (j + 1) 0)) m row = λ j. r j ∙ ap (λ i. ltb j m && admits (get_or (code ∷ codes) i 0)) (let e : suc j ≡ j + 1 = omega arith in e) in
    (omega (arith, is, power, small, byte_small (admits code)), subst (λ x. RowOf (λ k. admits (get_or (code ∷ codes) k 0)) (length (code ∷ codes)) x) (sym is) (subst (λ n. RowOf (λ k. admits (get_or (code ∷ codes) k 0)) n (row * 2 + b)) (sym longer) (row_before (λ k. admits (get_or (code ∷ codes) k 0)) m row rest)))

-- the row of the first codes of a list
pub first_codes : (admits : ℕ → Bool) (n : ℕ) (codes : List ℕ) (row : ℕ) → length (take n codes) ≡ n → RowOfCodes admits (take n codes) row → RowOf (λ k. admits (get_or codes k 0)) n row
first_codes admits n codes row long (small, r) k = r k ∙ ap (λ m. ltb k m && admits (get_or (take n codes) k 0)) long ∙ elim (cases_lt k n) [
  | inl below ↦ ap (λ c. ltb k n && admits c) (get_or-take n codes k 0 below)
  | inr above ↦ (let f = le-ltb k n above in ap (λ b. b && admits (get_or (take n codes) k 0)) f ∙ sym (ap (λ b. b && admits (get_or codes k 0)) f))
]

-- where a code is left, fewer than 64 are done
pub fewer : (rest left done codes : List ℕ) (code : ℕ) → rest ≡ push left code → rest ++ done ≡ take (min 64 (length codes)) codes → length done < 64
fewer rest left done codes code e s = omega (arith, ap length e, length-append left (code ∷ []), ap length s, length-append rest done, length-take (min 64 (length codes)) codes)

-- a code that is taken from the left goes before those that are done
pub taken : (rest left done whole : List ℕ) (code : ℕ) → rest ≡ push left code → rest ++ done ≡ whole → left ++ (code ∷ done) ≡ whole
taken rest left done whole code e s = sym (append_assoc left (code ∷ []) done) ∙ ap (λ r. r ++ done) (sym e) ∙ s

pub none_left : (rest done whole : List ℕ) → length rest ≡ 0 → rest ++ done ≡ whole → done ≡ whole
none_left [] done whole e s = s
none_left (x ∷ rest) done whole e s = absurd (omega arith)

as_byte : (b : Bool) → cond b 1 0 ≡ bool_byte b
as_byte true = refl
as_byte false = refl

-- one code before the others, in a row that is changed in place
pub code_asked : (admits : ℕ → Bool) (code : ℕ) (codes : List ℕ) (before after : ℕ) → length codes < 64 → RowOfCodes admits codes before → WithTest (admits code) before after → RowOfCodes admits (code ∷ codes) after
code_asked admits code codes before after few r e =
    subst (RowOfCodes admits (code ∷ codes)) (sym (e ∙ ap (λ b. bit_or ((before * 2) % 2 ^ 64) b) (as_byte (admits code)))) (code_before admits code codes before few r)

-- the rows of all symbols, where each is known by its place
pub rows_by_place : {S : Type 0} (p : ℕ → S → Bool) (n : ℕ) (line : List S) (rows : List ℕ) → length line ≤ length rows
    → ((i : ℕ) (d : S) → i < length line → RowOf (λ k. p k (get_or line i d)) n (get_or rows i 0)) → RowsOf p n line (take (length line) rows)
rows_by_place p n [] rows long each = tt
rows_by_place p n (s ∷ line) [] long each = absurd (omega arith)
rows_by_place p n (s ∷ line) (row ∷ rows) long each = (each 0 s (omega arith), rows_by_place p n line rows (omega arith) (λ i d h. each (suc i) d (omega arith)))

pub rows_length : {S : Type 0} (p : ℕ → S → Bool) (n : ℕ) (line : List S) (rows : List ℕ) → RowsOf p n line rows → length rows ≡ length line
rows_length p n [] [] a = refl
rows_length p n [] (x ∷ rows) a = absurd a
rows_length p n (y ∷ line) [] a = absurd a
rows_length p n (y ∷ line) (x ∷ rows) a = ap suc (rows_length p n line rows a.1)
