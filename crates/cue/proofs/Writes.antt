-- What is written step by step, and what writing answers.
use Rattle.std.proofs.Common.{◌≡◌, ℕ, ◌+◌, ◌-◌, ◌*◌, ◌≤◌, true, List, [], ◌∷◌, ◌++◌, length, Some, None, Option, sym, ap, ◌∙◌, subst, append_assoc, arith}
use Rattle.std.proofs.lemmas.Bool.{leb-true, ltb-true, and_parts}
use Rattle.std.proofs.lemmas.Grind.{common_steps}
use Rattle.text.specs.declared.buffer.Text.{Text}
use Rattle.text.specs.Texts.{Adds, written}
use Rattle.text.proofs.Chains.{◌then◌, read_as, alone}
use Rattle.sheet.specs.declared.Part.{Part}
use Rattle.cue.specs.Leb128.{leb128}
use Rattle.cue.specs.Marks.{runs_of, LongestRuns}
use Rattle.cue.specs.Records.{run_bytes, parts_from, part_bytes, record_of, fits, all_fit}
use Rattle.cue.proofs.Groups.{leb_length}
use Rattle.cue.proofs.Laying.{longest_runs, few_runs, within_line}
use Rattle.cue.proofs.Entries.{few_parts}

-- the same text and bytes, told otherwise
pub moved : {t v u : Text} {a b : List ℕ} → v ≡ t → b ≡ a → Adds v a u → Adds t b u
moved {t} {v} {u} {a} {b} e f x = subst (λ s. Adds s b u) e (read_as (sym f) x)

-- a run and then more
pub run_then : {t v w u : Text} (run : ℕ × ℕ) (rest : List (ℕ × ℕ)) → Adds t (leb128 run.0) v → Adds v (leb128 run.1) w → Adds w (run_bytes rest) u → Adds t (run_bytes (run ∷ rest)) u
run_then run rest a b c = a then (b then c)

pub part_then : {t v u : Text} (tag : ℕ) (part : Part) (rest : List (ℕ × Part)) → Adds t (leb128 tag ++ (leb128 part.left ++ leb128 (part.right - part.left))) v → Adds v (part_bytes rest) u
    → Adds t (part_bytes ((tag, part) ∷ rest)) u
part_then tag part rest a b =
    read_as (append_assoc (leb128 tag) (leb128 part.left ++ leb128 (part.right - part.left)) (part_bytes rest)
    ∙ ap (λ l. leb128 tag ++ l) (append_assoc (leb128 part.left) (leb128 (part.right - part.left)) (part_bytes rest))) (a then b)

-- how long a record can be
runs_length : (n end : ℕ) (rs : List (ℕ × ℕ)) → n ≤ 160 → LongestRuns n end rs → length (run_bytes rs) ≤ 4 * length rs
runs_length n end [] h l = omega arith
runs_length n end (run ∷ rs) h l =
    let within = within_line n (end + run.0 + run.1) rs l.2 in
    grind (arith, common_steps, runs_length n (end + run.0 + run.1) rs h l.2, leb_length run.0 (omega (arith, within, h)), leb_length run.1 (omega (arith, within, h)))

parts_length : (n tag : ℕ) (entries : List (Option Part)) → n ≤ 160 → tag + length entries ≤ 9 → all_fit n entries ≡ true → length (part_bytes (parts_from tag entries)) ≤ 6 * length entries
parts_length n tag [] h t f = omega arith
parts_length n tag (None ∷ es) h t f = omega (arith, parts_length n (tag + 1) es h (omega (arith, t)) f)
parts_length n tag (Some p ∷ es) h t f =
    let q = and_parts (fits n p) (all_fit n es) f in
    let fit = and_parts _ _ q.0 in
    let some = ltb-true p.left p.right fit.0 in
    let within = leb-true p.right n fit.1 in
    grind (
      arith,
      common_steps,
      parts_length n (tag + 1) es h (omega (arith, t)) q.1,
      leb_length tag (omega (arith, t)),
      leb_length p.left (omega (arith, some, within, h)),
      leb_length (p.right - p.left) (omega (arith, within, h)),
    )

record_short : (ms : List ℕ) (entries : List (Option Part)) → length ms ≤ 160 → length entries ≡ 8 → all_fit (length ms) entries ≡ true → length (record_of ms entries) ≤ 4096
record_short ms entries h e f =
    let runs = runs_of ms in
    let parts = parts_from 1 entries in
    grind (
      arith,
      common_steps,
      few_runs ms,
      runs_length (length ms) 0 runs h (longest_runs ms),
      parts_length (length ms) 1 entries h (omega (arith, e)) f,
      leb_length (length runs) (omega (arith, few_runs ms, h)),
      leb_length (length parts) (omega (arith, few_parts 1 entries, e)),
    )

-- the whole record
pub record_written : {t v w x u : Text} (ms : List ℕ) (entries : List (Option Part)) → written t ≡ [] → length ms ≤ 160 → length entries ≡ 8 → all_fit (length ms) entries ≡ true
    → Adds t (leb128 (length (runs_of ms))) v → Adds v (run_bytes (runs_of ms)) w → Adds w (leb128 (length (parts_from 1 entries))) x → Adds x (part_bytes (parts_from 1 entries)) u
    → written u ≡ record_of ms entries
record_written ms entries e h long f a b c d = alone e (a then (b then (c then d))) (record_short ms entries h long f)
