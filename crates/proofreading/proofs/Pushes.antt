-- One more byte that is shown, and one more line of a report.
use Rattle.std.proofs.Common.{◌≡◌, ℕ, ◌+◌, ◌<◌, List, [], ◌∷◌, ◌++◌, length, get_or, take, drop, replicate, refl, sym, ap, ◌∙◌, append-nil, arith}
use Rattle.std.proofs.lemmas.List.{replicate-append-replicate, take_more, length-take-le}
use Rattle.std.proofs.lemmas.Grind.{common_steps}
use Rattle.std.specs.List.{enumerate_from}
use Rattle.std.proofs.lemmas.List.FromFn.{get_or-enumerate_from, length-enumerate_from}
use Rattle.text.specs.declared.buffer.Text.{Text}
use Rattle.text.specs.Texts.{Adds}
use Rattle.text.proofs.Chains.{◌then◌, read_as}
use Rattle.proofreading.specs.Showing.{shown, shown_byte}
use Rattle.proofreading.specs.Reports.{number_line, number_lines}

pub shown_push : (bs : List ℕ) (b : ℕ) → shown (bs ++ (b ∷ [])) ≡ shown bs ++ shown_byte b
shown_push bs b = grind (arith, common_steps)

-- a space for each column
abbrev pub blank : List ℕ → List ℕ
blank bs = replicate (length bs) 32

pub blank_push : (bs : List ℕ) (b : ℕ) → blank (shown (bs ++ (b ∷ []))) ≡ blank (shown bs) ++ blank (shown_byte b)
blank_push bs b =
    grind (arith, common_steps, shown_push bs b, replicate-append-replicate {A = ℕ} (length (shown bs)) (length (shown_byte b)) 32)

pub lines_push : (n : ℕ) (ks : List ℕ) (k : ℕ) → number_lines n (ks ++ (k ∷ [])) ≡ number_lines n ks ++ number_line (n + length ks) k
lines_push n [] k = append-nil _ ∙ ap (λ m. number_line m k) (omega arith)
lines_push n (x ∷ ks) k =
    let at : n + 1 + length ks ≡ n + length (x ∷ ks) = omega arith in
    grind (arith, common_steps, lines_push (n + 1) ks k, ap (λ m. number_line m k) at)

-- the counts from that of number 1 on, each with its number
from_one : (ks : List ℕ) → drop 1 (enumerate_from 0 ks) ≡ enumerate_from 1 (drop 1 ks)
from_one [] = refl
from_one (k ∷ ks) = refl

pub length_from_one : (ks : List ℕ) → length (drop 1 (enumerate_from 0 ks)) ≡ length (drop 1 ks)
length_from_one ks = ap length (from_one ks) ∙ length-enumerate_from 1 (drop 1 ks)

-- the lines up to a number, and its own
pub lines_more : {t u v : Text} (ks : List ℕ) (i n k : ℕ) → i < length (drop 1 (enumerate_from 0 ks)) → (n, k) ≡ get_or (drop 1 (enumerate_from 0 ks)) i (n, k)
    → Adds t (number_lines 1 (take i (drop 1 ks))) u → Adds u (number_line n k) v → Adds t (number_lines 1 (take (i + 1) (drop 1 ks))) v
lines_more ks i n k h e p q =
    let rest = drop 1 ks in
    let in_rest : i < length rest = omega (arith, length_from_one ks) in
    let same : (n, k) ≡ (1 + i, get_or rest i k) = e ∙ ap (λ l. get_or l i (n, k)) (from_one ks) ∙ get_or-enumerate_from 1 rest i (n, k) in_rest in
    let at : 1 + length (take i rest) ≡ n = omega (arith, length-take-le i rest (omega arith), ap (λ x. x.0) same) in
    let more : number_lines 1 (take (i + 1) rest) ≡ number_lines 1 (take i rest) ++ number_line n k
    = ap (number_lines 1) (take_more rest i k in_rest) ∙ lines_push 1 (take i rest) (get_or rest i k) ∙ ap (λ m. number_lines 1 (take i rest) ++ number_line m (get_or rest i k)) at ∙ ap (λ x. number_lines 1 (take i rest) ++ number_line n x) (sym (ap (λ x. x.1) same)) in
    read_as (sym more) (p then q)
