-- One more mark that is shown, and one more tag.
use Rattle.std.proofs.Common.{◌≡◌, ℕ, ◌+◌, ◌<◌, List, [], ◌∷◌, ◌++◌, length, min, get_or, take, None, Option, sym, ap, ◌∙◌, append-nil, arith}
use Rattle.std.proofs.lemmas.List.{take_more, length-take-le}
use Rattle.std.proofs.lemmas.Grind.{common_steps}
use Rattle.sheet.specs.declared.Part.{Part}
use Rattle.text.specs.declared.buffer.Text.{Text}
use Rattle.text.specs.Texts.{Adds}
use Rattle.text.proofs.Chains.{◌then◌, read_as}
use Rattle.orders.specs.Printing.{shown_mark, shown_marks, tag_text, tags_text}

pub marks_push : (ms : List ℕ) (m : ℕ) → shown_marks (ms ++ (m ∷ [])) ≡ shown_marks ms ++ (shown_mark m ∷ [])
marks_push ms m = grind (arith, common_steps)

tags_push : (n : ℕ) (ps : List (Option Part)) (p : Option Part) → tags_text n (ps ++ (p ∷ [])) ≡ tags_text n ps ++ tag_text (n + length ps) p
tags_push n [] p = append-nil _ ∙ ap (λ m. tag_text m p) (omega arith)
tags_push n (q ∷ ps) p =
    let at : n + 1 + length ps ≡ n + length (q ∷ ps) = omega arith in
    grind (arith, common_steps, tags_push (n + 1) ps p, ap (λ m. tag_text m p) at)

-- the tags up to one, and its own
pub tags_more : {t u v : Text} (ps : List (Option Part)) (i : ℕ) → i < length ps
    → Adds t (tags_text 1 (take i ps)) u → Adds u (tag_text (i + 1) (get_or ps i None)) v → Adds t (tags_text 1 (take (i + 1) ps)) v
tags_more ps i h p q =
    let at : 1 + length (take i ps) ≡ i + 1 = omega (arith, length-take-le i ps (omega arith)) in
    read_as (sym (ap (tags_text 1) (take_more ps i None h) ∙ tags_push 1 (take i ps) (get_or ps i None) ∙ ap (λ m. tags_text 1 (take i ps) ++ tag_text m (get_or ps i None)) at)) (p then q)

-- the first so many, or all where there are fewer
pub first_or_all : (n : ℕ) (ps : List (Option Part)) → take (min n (length ps)) ps ≡ take n ps
first_or_all n ps = grind (arith, common_steps)
