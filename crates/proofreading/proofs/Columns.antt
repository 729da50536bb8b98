-- Where a byte of the pattern begins on its line.
use Rattle.std.proofs.Common.{◌≡◌, ℕ, ◌≤◌, List, ◌++◌, length, take, drop, replicate, codes, sym, ap, ◌∙◌, append_assoc, arith, take-append-drop}
use Rattle.std.proofs.lemmas.List.{replicate-append-replicate, take_all, drop_at}
use Rattle.std.proofs.lemmas.Bool.{le-ltb, cond-false}
use Rattle.std.proofs.lemmas.Grind.{flat_map-append}
use Rattle.proofreading.specs.Showing.{shown, shown_byte, pattern_line, column, CaretStandsBelow}

-- the line of a pattern that is shown whole, with the bytes before an offset apart
parted : (bs : List ℕ) (at : ℕ) → length bs ≤ 120 → pattern_line bs ≡ (codes "    " ++ shown (take at bs)) ++ (shown (drop at bs) ++ codes "\n")
parted bs at w =
    let before = shown (take at bs) in
    let after = shown (drop at bs) in
    let all : shown (take 120 bs) ≡ before ++ after = ap shown (take_all 120 bs w ∙ sym (take-append-drop at bs)) ∙ flat_map-append shown_byte (take at bs) (drop at bs) in
    ap (λ l. codes "    " ++ (shown (take 120 bs) ++ l)) (cond-false _ _ _ (le-ltb 120 (length bs) w))
    ∙ ap (λ l. codes "    " ++ (l ++ codes "\n")) all
    ∙ ap (λ l. codes "    " ++ l) (append_assoc before after (codes "\n"))

pub caret_stands_below : CaretStandsBelow
caret_stands_below bs at h w =
    let before = shown (take at bs) in (
      ap (drop (column bs at)) (parted bs at w) ∙ drop_at (codes "    " ++ before) _ (column bs at) (omega arith),
      ap (λ l. codes "    " ++ (replicate (length (shown (take at l))) 32 ++ codes "^\n")) (take_all 120 bs w) ∙ ap (λ l. l ++ codes "^\n") (replicate-append-replicate 4 (length before) 32),
    )
