-- Every answer fits into a text.
use Rattle.std.proofs.Common.{◌≡◌, ℕ, ◌+◌, ◌*◌, ◌≤◌, List, [], ◌∷◌, length, take, Some, None, Ok, Err, Option, Result, inl, inr, refl, ap, arith, length-take}
use Rattle.std.proofs.lemmas.Grind.{common_steps}
use Rattle.orders.specs.Printing.{refused_text, spaced_marks, part_text, tag_text, tags_text}
use Rattle.pattern.specs.Expressions.{Syntax}
use Rattle.refusals.proofs.Lengths.{decimal_short, refusal_short}
use Rattle.sheet.specs.declared.Part.{Part}
use Rattle.shelf.specs.declared.refusal.Refusal.{Refusal}
use Rattle.pattern.specs.declared.kept.Pattern.{Pattern}
use Rattle.shelf.specs.declared.refusal.Refusal.TheVariants.{NoMatch}
use Rattle.shelf.specs.Reports.{asked}
use Rattle.marking.proofs.Looks.{asked_of}
use Rattle.marking.specs.Answers.{filing_text, withdrawing_text, found_text, Reported}

refused_short : (r : Refusal) → length (refused_text r) ≤ 221
refused_short r = grind (arith, common_steps, refusal_short r)

pub filing_short : (r : Result (ℕ × ℕ) Refusal) → length (filing_text r) ≤ 4096
filing_short (Ok n) = grind (arith, common_steps, decimal_short n.0, decimal_short n.1)
filing_short (Err r) = omega (arith, refused_short r)

pub withdrawing_short : (r : Result (Unit {0}) Refusal) → length (withdrawing_text r) ≤ 4096
withdrawing_short (Ok n) = grind (arith, common_steps)
withdrawing_short (Err r) = omega (arith, refused_short r)

part_short : (p : Option Part) → length (part_text p) ≤ 129
part_short None = grind (arith, common_steps)
part_short (Some p) = grind (arith, common_steps, decimal_short p.left, decimal_short p.right)

tag_short : (t : ℕ) (p : Option Part) → length (tag_text t p) ≤ 195
tag_short t p = grind (arith, common_steps, decimal_short t, part_short p)

tags_short : (t : ℕ) (ps : List (Option Part)) → length (tags_text t ps) ≤ 195 * length ps
tags_short t [] = omega arith
tags_short t (p ∷ ps) = grind (arith, common_steps, tag_short t p, tags_short (t + 1) ps)

spaced_short : (ms : List ℕ) → length (spaced_marks ms) ≤ 1 + length ms
spaced_short [] = omega arith
spaced_short (m ∷ ms) = grind (arith, common_steps)

found_short : (x : Syntax) (ends : ℕ × ℕ) (marks : List ℕ) (entries : List (Option Part)) → length marks ≤ 160 → length entries ≡ 8
    → length (found_text x ends marks entries) ≤ 4096
found_short x ends marks entries few eight =
    let parts = tags_short 1 (take x.tags entries) in
    let cut : length (take x.tags entries) ≤ 8 = omega (arith, length-take x.tags entries) in
    grind (arith, common_steps, decimal_short ends.0, decimal_short ends.1, spaced_short marks)

pub reported_short : (places : List (Option Pattern)) (place : ℕ) (line text : List ℕ) → Reported (asked places place (length line)) line text → length text ≤ 4096
reported_short places place line text a = go (asked places place (length line)) refl a
  where
    go : (r : Result Syntax Refusal) → asked places place (length line) ≡ r → Reported r line text → length text ≤ 4096
    go (Err f) e is = omega (arith, refused_short f, ap length is)
    go (Ok x) e (inr none) = omega (arith, refused_short NoMatch, ap length none.1)
    go (Ok x) e (inl tells) =
        let few : length line ≤ 160 = (asked_of places place (length line) x e).1 in
        let each : length tells.marks ≡ length line = tells.found.one_each in
        omega (arith, found_short x tells.ends tells.marks tells.entries (omega arith) tells.found.parts.eight, ap length tells.is)
