-- What stands at a place that is filed and bared, and the first bytes of a line.
use Rattle.std.proofs.Common.{◌≡◌, ℕ, ◌<◌, ◌≤◌, false, cond, ltb, List, [], ◌++◌, length, take, is_some, Some, None, Ok, Err, codes, decimal, Option, Result, sym, refl, ap, ◌∙◌, inl, inr, arith, length-take, take_all, take-take}
use borrow.Author.Tests.{lt-true, lt-false}
use Rattle.std.proofs.lemmas.Bool.{cases_lt}
use Rattle.alphabet.specs.Letters.{letter_reading}
use Rattle.pattern.specs.declared.fault.Fault.TheVariants.{TooLong}
use Rattle.pattern.specs.Expressions.{Syntax}
use Rattle.pattern.specs.Scanning.{syntax_of, scanned}
use Rattle.pattern.specs.Tokens.{Reading, tokens}
use Rattle.pattern.specs.declared.kept.Pattern.{Pattern}
use Rattle.shelf.specs.declared.refusal.Refusal.{Refusal}
use Rattle.shelf.specs.declared.refusal.Refusal.TheVariants.{PlaceTaken, Unlawful}
use Rattle.refusals.specs.RefusalTexts.{refusal_text}
use Rattle.shelf.specs.Places.{held_at}
use Rattle.shelf.specs.Filing.{filing, unlawful, counts}
use Rattle.proofreading.specs.Showing.{shown, pattern_line}
use Rattle.proofreading.specs.Verdicts.{Verdict, verdict_text}
use Rattle.proofreading.specs.declared.tally.Tally.{Tally}
use Rattle.proofreading.specs.Tallies.{tallied, one_more}
use Rattle.proofreading.specs.Proofreading.{verdict_on, FrontSuffices}

pub nothing : {A : Type 0} (o : Option A) → is_some o ≡ false → o ≡ None
nothing None e = refl
nothing (Some x) e = cc

-- filing at a place where nothing stands answers by the bytes alone
pub by_bytes : (reading : Reading) (places : List (Option Pattern)) (bytes : List ℕ) → is_some (held_at places 0) ≡ false → filing reading places 0 bytes ≡ unlawful (syntax_of reading bytes)
by_bytes reading places bytes e = ap (λ o. elim o as (λ _. Result Syntax Refusal) [ None ↦ unlawful (syntax_of reading bytes) | Some y ↦ Err PlaceTaken ]) (nothing (held_at places 0) e)

long_verdict : (bytes : List ℕ) → 120 < length bytes → verdict_on bytes ≡ Err (Unlawful TooLong)
long_verdict bytes h = ap (λ b. counts (unlawful (cond b (scanned (length bytes) (tokens letter_reading bytes)) (Err TooLong)))) (sym (lt-false (length bytes) 120 h))

-- a long line's front is shown alike
long_line : (line : List ℕ) → 121 ≤ length line → pattern_line (take 121 line) ≡ pattern_line line
long_line line h =
    let front : ltb 120 (length (take 121 line)) ≡ ltb 120 (length line) = sym (lt-true 120 (length (take 121 line)) (omega (arith, length-take 121 line))) ∙ lt-true 120 (length line) (omega arith) in
    ap (λ l. codes "    " ++ (shown l ++ cond (ltb 120 (length (take 121 line))) (codes "...\n") (codes "\n"))) (take-take 120 121 line (omega arith))
    ∙ ap (λ b. codes "    " ++ (shown (take 120 line) ++ cond b (codes "...\n") (codes "\n"))) front

pub front_suffices : FrontSuffices
front_suffices n line = elim (cases_lt (length line) 121) [
  | inl h ↦ ap (λ l. verdict_text n l (verdict_on l)) (take_all 121 line (omega arith))
  | inr h ↦
      (let F : List ℕ → List ℕ = λ p. codes "line " ++ (decimal n ++ (codes ": " ++ (refusal_text (Unlawful TooLong) ++ (codes ", " ++ (codes "longer than 120 bytes" ++ (codes "\n" ++ (p ++ []))))))) in
      ap (verdict_text n (take 121 line)) (long_verdict (take 121 line) (omega (arith, length-take 121 line)))
      ∙ ap F (long_line line h)
      ∙ sym (ap (verdict_text n line) (long_verdict line (omega arith))))
]

pub one_more_lem : (t : Tally) (v : Verdict) → (tallied t v).patterns ≡ one_more t.patterns
one_more_lem t (Ok counts) = refl
one_more_lem t (Err refusal) = refl
