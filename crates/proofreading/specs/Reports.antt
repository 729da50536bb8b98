-- The text of the report.
use Rattle.std.specs.Prelude.{ℕ, ◌+◌, cond, List, [], ◌∷◌, ◌++◌, drop, codes, decimal, nat_lt}
use Rattle.proofreading.specs.declared.tally.Tally.{Tally}
use Rattle.proofreading.specs.Words.{refusal_name, counted}

-- the first line: how many patterns there were, and how many of them lawful and refused
abbrev pub report_head : ℕ → ℕ → ℕ → List ℕ
report_head patterns lawful refused =
    codes "report: " ++ (counted patterns (codes "pattern") ++ (codes ", " ++ (decimal lawful ++ (codes " lawful, " ++ (decimal refused ++ codes " refused\n")))))

-- the line for the refusals of a number, if there were any
abbrev pub number_line : ℕ → ℕ → List ℕ
number_line number count =
    cond (nat_lt 0 count)
    (codes "    refused " ++ (decimal number ++ (codes " (" ++ (refusal_name number ++ (codes "): " ++ (decimal count ++ codes "\n"))))))
    []

-- the lines for the numbers from one on
abbrev pub number_lines : ℕ → List ℕ → List ℕ
number_lines number [] = []
number_lines number (count ∷ counts) = number_line number count ++ number_lines (number + 1) counts

-- the whole report: its first line, and a line for each number under which there were refusals (none has the number 0)
abbrev pub report_text : Tally → List ℕ
report_text t = report_head t.patterns t.lawful t.refused ++ number_lines 1 (drop 1 t.by_number)
