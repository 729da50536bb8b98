-- Tokens one after another.
use Rattle.std.proofs.Common.{◌≡◌, ℕ, zero, suc, ◌+◌, ◌-◌, ◌<◌, ◌≤◌, false, List, [], ◌∷◌, ◌++◌, length, drop, Some, None, Option, sym, refl, ap, ◌∙◌, append_assoc, arith, length-drop, drop-drop}
use Rattle.std.proofs.lemmas.List.{drop_all}
use Rattle.alphabet.specs.Signs.{is_sign}
use Rattle.pattern.specs.declared.token.Kind.{Kind}
use Rattle.pattern.specs.declared.token.Token.{Token}
use Rattle.pattern.specs.Tokens.{Reading, SameReading, sign_kind, token, tested, first_token, tokens_from, tokens}

-- a byte that is none of the signs
no_sign : (b : ℕ) → sign_kind b ≡ None → is_sign b ≡ false
no_sign b e = grind arith

-- what the first token is, by what its first byte is
by_sign : (reading : Reading) (at b : ℕ) (rest : List ℕ) (o : Option Kind) → sign_kind b ≡ o → first_token reading at (b ∷ rest) ≡ elim o [ Some k ↦ (k, 1) | None ↦ tested at (length (b ∷ rest)) (reading (b ∷ rest)) ]
by_sign reading at b rest o e = ap (λ z. elim z as (λ _. Kind × ℕ) [ Some k ↦ (k, 1) | None ↦ tested at (length (b ∷ rest)) (reading (b ∷ rest)) ]) e

-- notations that read the same see the same first token
pub same_first : (r r' : Reading) → SameReading r r' → (at : ℕ) (bytes : List ℕ) → first_token r at bytes ≡ first_token r' at bytes
same_first r r' same at [] = refl
same_first r r' same at (b ∷ rest) = by (sign_kind b) refl
  where
    by : (o : Option Kind) → sign_kind b ≡ o → first_token r at (b ∷ rest) ≡ first_token r' at (b ∷ rest)
    by (Some k) e = by_sign r at b rest (Some k) e ∙ sym (by_sign r' at b rest (Some k) e)
    by None e = by_sign r at b rest None e ∙ ap (tested at (length (b ∷ rest))) (same (b ∷ rest) (no_sign b e)) ∙ sym (by_sign r' at b rest None e)

-- the bytes that belong to the token before are passed over
passed : (reading : Reading) (at k : ℕ) (bytes : List ℕ) → k ≤ length bytes → tokens_from reading at k bytes ≡ tokens_from reading (at + k) 0 (drop k bytes)
passed reading at zero bytes h = ap (λ i. tokens_from reading i 0 bytes) (omega arith)
passed reading at (suc k) [] h = elim h [ ]
passed reading at (suc k) (b ∷ bytes) h = passed reading (at + 1) k bytes (omega arith) ∙ ap (λ i. tokens_from reading i 0 (drop k bytes)) (omega arith)

-- one token after another
pub next_token : (reading : Reading) (at : ℕ) (bytes : List ℕ) (k : Kind) (used : ℕ) → (k, used) ≡ first_token reading at bytes → 0 < used → used ≤ length bytes → tokens_from reading at 0 bytes ≡ token k at ∷ tokens_from reading (at + used) 0 (drop used bytes)
next_token reading at [] k zero e some within = elim some [ ]
next_token reading at [] k (suc n) e some within = elim within [ ]
next_token reading at (b ∷ bytes) k zero e some within = elim some [ ]
next_token reading at (b ∷ bytes) k (suc n) e some within =
    let first : first_token reading at (b ∷ bytes) ≡ (k, suc n) = sym e in
    ap (λ p. token p.0 at ∷ tokens_from reading (at + 1) (p.1 - 1) bytes) first
    ∙ ap (λ i. token k at ∷ tokens_from reading (at + 1) i bytes) (omega arith)
    ∙ ap (λ l. token k at ∷ l) (passed reading (at + 1) n bytes (omega arith) ∙ ap (λ i. tokens_from reading i 0 (drop n bytes)) (omega arith))

-- one token more is listed
pub listed_more : (reading : Reading) (bytes : List ℕ) (list : List Token) (at used : ℕ) (k : Kind) → (k, used) ≡ first_token reading at (drop at bytes) → 0 < used → at + used ≤ length bytes → list ++ tokens_from reading at 0 (drop at bytes) ≡ tokens reading bytes → (list ++ (token k at ∷ [])) ++ tokens_from reading (at + used) 0 (drop (at + used) bytes) ≡ tokens reading bytes
listed_more reading bytes list at used k e some within so_far =
    let rest = tokens_from reading (at + used) 0 (drop (at + used) bytes) in
    let on : tokens_from reading at 0 (drop at bytes) ≡ token k at ∷ rest = next_token reading at (drop at bytes) k used e some (omega (arith, length-drop at bytes)) ∙ ap (λ l. token k at ∷ tokens_from reading (at + used) 0 l) (drop-drop used at bytes) in
    append_assoc list (token k at ∷ []) rest ∙ ap (λ l. list ++ l) (sym on) ∙ so_far

pub none_left : (reading : Reading) (bytes : List ℕ) (at : ℕ) → length bytes ≤ at → tokens_from reading at 0 (drop at bytes) ≡ []
none_left reading bytes at h = ap (tokens_from reading at 0) (drop_all at bytes h)
