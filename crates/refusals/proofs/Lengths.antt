-- How long a printed refusal is at most.
use Rattle.std.proofs.Common.{ℕ, zero, suc, ◌+◌, ◌/◌, ◌%◌, ◌≤◌, Bool, false, eqb, List, [], ◌∷◌, length, decimal, Option, arith}
use Rattle.std.specs.Fmt.{digits_onto, digit_glyph, digits}
use Rattle.std.proofs.lemmas.Bool.{cond_both}
use Rattle.std.proofs.lemmas.Grind.{common_steps}
use Rattle.alphabet.specs.declared.Cause.{Cause}
use Rattle.shelf.specs.declared.refusal.Refusal.{Refusal}
use Rattle.shelf.specs.Refusals.{refusal_number, refusal_offset, refusal_cause}
use Rattle.refusals.specs.RefusalTexts.{offset_text, cause_text, refusal_text}

spelled_short : (k base : ℕ) (upper : Bool) (n : ℕ) (acc : List ℕ) → length (digits_onto k base upper n acc) ≤ k + length acc
spelled_short zero base upper n acc = omega arith
spelled_short (suc k) base upper n acc =
    cond_both (eqb (n / base) 0) _ _ (λ l. length l ≤ suc k + length acc)
    (λ _. omega arith)
    (λ _. omega (arith, spelled_short k base upper (n / base) (digit_glyph upper (n % base) ∷ acc)))

-- as a number of 64 bits is printed, and any other too
pub decimal_short : (n : ℕ) → length (decimal n) ≤ 64
unfolding digits
decimal_short n = omega (arith, spelled_short 64 10 false n [])

offset_short : (o : Option ℕ) → length (offset_text o) ≤ 68
offset_short o = grind (arith, decimal_short)

cause_text_short : (o : Option Cause) → length (cause_text o) ≤ 71
cause_text_short o = grind (arith, decimal_short)

pub refusal_short : (r : Refusal) → length (refusal_text r) ≤ 220
refusal_short r = grind (arith, common_steps, decimal_short (refusal_number r), offset_short (refusal_offset r), cause_text_short (refusal_cause r))
