-- What is printed in answer to an order, line by line.
use Rattle.std.specs.Prelude.{ℕ, ◌+◌, cond, List, [], ◌∷◌, ◌++◌, map, take, Some, None, codes, decimal, Option, ◌==◌}
use Rattle.refusals.specs.RefusalTexts.{refusal_text}
use Rattle.sheet.specs.declared.Part.{Part}
use Rattle.shelf.specs.declared.refusal.Refusal.{Refusal}

-- the refusal, on a line of its own
abbrev pub refused_text : Refusal → List ℕ
refused_text refusal = refusal_text refusal ++ codes "\n"

-- the line where the bytes are no order
abbrev pub unknown_text : List ℕ
unknown_text = codes "refused 19\n"

-- a label and two numbers, on a line of their own
abbrev pub pair_text : List ℕ → ℕ → ℕ → List ℕ
pair_text label first second = label ++ (codes " " ++ (decimal first ++ (codes " " ++ (decimal second ++ codes "\n"))))

-- the line where a pattern is filed: the numbers of its tests and tags
abbrev pub filed_text : ℕ → ℕ → List ℕ
filed_text tests tags = pair_text (codes "ok") tests tags

-- the line where a pattern is withdrawn
abbrev pub withdrawn_text : List ℕ
withdrawn_text = codes "ok\n"

-- the line with the two ends of the longest stretch
abbrev pub longest_text : ℕ → ℕ → List ℕ
longest_text left right = pair_text (codes "longest") left right

-- a full stop for the mark 0, and a hash for any other
abbrev pub shown_mark : ℕ → ℕ
shown_mark mark = cond (mark == 0) 46 35

-- a sign for each mark
abbrev pub shown_marks : List ℕ → List ℕ
shown_marks marks = map shown_mark marks

-- a sign for each mark, with a space before them, where there are marks
abbrev pub spaced_marks : List ℕ → List ℕ
spaced_marks [] = []
spaced_marks (mark ∷ marks) = codes " " ++ shown_marks (mark ∷ marks)

-- the line with the marks
abbrev pub marks_text : List ℕ → List ℕ
marks_text marks = codes "marks" ++ (spaced_marks marks ++ codes "\n")

-- a part by its two ends, or that there is none
abbrev pub part_text : Option Part → List ℕ
part_text None = codes "none"
part_text (Some part) = decimal part.left ++ (codes "-" ++ decimal part.right)

-- a tag by its number, with its part
abbrev pub tag_text : ℕ → Option Part → List ℕ
tag_text tag part = codes " " ++ (decimal tag ++ (codes ":" ++ part_text part))

-- the parts of the tags from one on, in turn
abbrev pub tags_text : ℕ → List (Option Part) → List ℕ
tags_text tag [] = []
tags_text tag (part ∷ parts) = tag_text tag part ++ tags_text (tag + 1) parts

-- the line with the parts of the first so many tags of a sheet
abbrev pub parts_text : ℕ → List (Option Part) → List ℕ
parts_text tags entries = codes "parts" ++ (tags_text 1 (take tags entries) ++ codes "\n")
