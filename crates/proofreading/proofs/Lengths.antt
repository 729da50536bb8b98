-- Every verdict and every report fits into a text.
use Rattle.std.proofs.Common.{◌≡◌, ℕ, zero, suc, ◌+◌, ◌*◌, ◌≤◌, cond, ltb, List, [], ◌∷◌, length, get_or, take, drop, replicate, Some, None, codes, Option, arith, lit≤, length-append, length-take}
use lib.ListN.{length-replicate}
use Rattle.std.proofs.lemmas.Bool.{cond_both}
use Rattle.std.proofs.lemmas.Grind.{common_steps}
use Rattle.alphabet.specs.declared.Cause.{Cause}
use Rattle.shelf.specs.declared.refusal.Refusal.{Refusal}
use Rattle.shelf.specs.Refusals.{refusal_words, refusal_offset}
use Rattle.alphabet.specs.Causes.{cause_words}
use Rattle.refusals.proofs.Lengths.{decimal_short, refusal_short}
use Rattle.proofreading.specs.declared.tally.Tally.{Tally}
use Rattle.proofreading.specs.Showing.{shown, shown_byte, prints, pattern_line, caret_line}
use Rattle.proofreading.specs.Words.{refusal_names, refusal_name, counted}
use Rattle.proofreading.specs.Verdicts.{Verdict, lawful_text, refused_text, finding_text, verdict_text}
use Rattle.proofreading.specs.Reports.{report_head, number_line, number_lines, report_text}

byte_short : (b : ℕ) → length (shown_byte b) ≤ 4
byte_short b = cond_both (prints b) _ _ (λ l. length l ≤ 4) (λ _. omega arith) (λ _. omega arith)

shown_short : (bs : List ℕ) → length (shown bs) ≤ 4 * length bs
shown_short [] = omega arith
shown_short (b ∷ bs) = grind (arith, common_steps, byte_short b, shown_short bs)

pattern_short : (bs : List ℕ) → length (pattern_line bs) ≤ 488
pattern_short bs =
    let dots : List ℕ = cond (ltb 120 (length bs)) (codes "...\n") (codes "\n") in
    let few : length dots ≤ 4 = cond_both (ltb 120 (length bs)) _ _ (λ l. length l ≤ 4) (λ _. lit≤ tt) (λ _. lit≤ tt) in
    omega (arith, length-append (shown (take 120 bs)) dots, few, shown_short (take 120 bs), length-take 120 bs)

caret_short : (bs : List ℕ) (o : Option ℕ) → length (caret_line bs o) ≤ 486
caret_short bs None = omega arith
caret_short bs (Some at) =
    let before = shown (take at (take 120 bs)) in
    omega (arith, length-append (replicate (length before) 32) (codes "^\n"), length-replicate {A = ℕ} (length before) 32, shown_short (take at (take 120 bs)), length-take at (take 120 bs), length-take 120 bs)

counted_short : (n : ℕ) (noun : List ℕ) → length (counted n noun) ≤ 66 + length noun
counted_short n noun = grind (arith, common_steps, decimal_short n)

cause_short : (c : Cause) → length (cause_words c) ≤ 57
cause_short c = grind arith

words_short : (r : Refusal) → length (refusal_words r) ≤ 57
words_short r = grind (arith, cause_short)

lawful_short : (bs : List ℕ) (tests tags : ℕ) → length (lawful_text bs tests tags) ≤ 700
lawful_short bs tests tags = grind (arith, common_steps, counted_short tests (codes "test"), counted_short tags (codes "tag"), pattern_short bs)

refused_short : (bs : List ℕ) (r : Refusal) → length (refused_text bs r) ≤ 1300
refused_short bs r = grind (arith, common_steps, refusal_short r, words_short r, pattern_short bs, caret_short bs (refusal_offset r))

finding_short : (bs : List ℕ) (v : Verdict) → length (finding_text bs v) ≤ 1300
finding_short bs v = grind (arith, lawful_short, refused_short)

pub verdict_fits : (line : ℕ) (bs : List ℕ) (v : Verdict) → length (verdict_text line bs v) ≤ 4096
verdict_fits line bs v = grind (arith, common_steps, decimal_short line, finding_short bs v)

-- none of the names is longer than n
abbrev Within : ℕ → List (List ℕ) → Type 0
Within n [] = Unit {0}
Within n (x ∷ xs) = (length x ≤ n) × Within n xs

within_at : (n : ℕ) (xs : List (List ℕ)) (i : ℕ) → Within n xs → length (get_or xs i []) ≤ n
within_at n [] i w = omega arith
within_at n (x ∷ xs) zero w = w.0
within_at n (x ∷ xs) (suc i) w = within_at n xs i w.1

name_short : (n : ℕ) → length (refusal_name n) ≤ 14
name_short n = within_at 14 refusal_names n (lit≤ tt, (lit≤ tt, (lit≤ tt, (lit≤ tt, (lit≤ tt, (lit≤ tt, (lit≤ tt, (lit≤ tt, (lit≤ tt, (lit≤ tt, (lit≤ tt, (lit≤ tt, (lit≤ tt, (lit≤ tt, (lit≤ tt, (lit≤ tt, tt))))))))))))))))

line_short : (n k : ℕ) → length (number_line n k) ≤ 160
line_short n k = grind (arith, common_steps, decimal_short n, name_short n, decimal_short k)

lines_short : (n : ℕ) (ks : List ℕ) → length (number_lines n ks) ≤ 160 * length ks
lines_short n [] = omega arith
lines_short n (k ∷ ks) = grind (arith, common_steps, line_short n k, lines_short (n + 1) ks)

head_short : (patterns lawful refused : ℕ) → length (report_head patterns lawful refused) ≤ 240
head_short patterns lawful refused = grind (arith, common_steps, counted_short patterns (codes "pattern"), decimal_short lawful, decimal_short refused)

pub report_fits : (t : Tally) → length t.by_number ≡ 16 → length (report_text t) ≤ 4096
report_fits t e = grind (arith, common_steps, head_short t.patterns t.lawful t.refused, lines_short 1 (drop 1 t.by_number))
