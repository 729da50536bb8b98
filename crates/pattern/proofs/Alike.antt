-- Two notations that read the same make the same of any bytes.
use Rattle.std.proofs.Common.{◌≡◌, ℕ, zero, suc, ◌+◌, ◌-◌, cond, List, [], ◌∷◌, length, Err, nat_le, refl, ap, ◌∙◌}
use Rattle.pattern.specs.declared.fault.Fault.TheVariants.{TooLong}
use Rattle.pattern.specs.Tokens.{Reading, SameReading, token, first_token, tokens_from}
use Rattle.pattern.specs.Scanning.{scanned, syntax_of}
use Rattle.pattern.proofs.Cuts.{same_first}

same_tokens : (r r' : Reading) → SameReading r r' → (at skip : ℕ) (bytes : List ℕ) → tokens_from r at skip bytes ≡ tokens_from r' at skip bytes
same_tokens r r' same at zero [] = refl
same_tokens r r' same at (suc skip) [] = refl
same_tokens r r' same at zero (b ∷ bytes) =
    let first = first_token r' at (b ∷ bytes) in
    ap (λ p. token p.0 at ∷ tokens_from r (at + 1) (p.1 - 1) bytes) (same_first r r' same at (b ∷ bytes))
    ∙ ap (λ l. token first.0 at ∷ l) (same_tokens r r' same (at + 1) (first.1 - 1) bytes)
same_tokens r r' same at (suc skip) (b ∷ bytes) = same_tokens r r' same (at + 1) skip bytes

-- the same pattern, or the same first fault
pub same_syntax : (r r' : Reading) → SameReading r r' → (bytes : List ℕ) → syntax_of r bytes ≡ syntax_of r' bytes
same_syntax r r' same bytes = ap (λ ts. cond (nat_le (length bytes) 120) (scanned (length bytes) ts) (Err TooLong)) (same_tokens r r' same 0 0 bytes)
