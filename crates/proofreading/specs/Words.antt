-- Refusals by number, and counts, in words.
use Rattle.std.specs.Prelude.{ℕ, cond, List, [], ◌∷◌, ◌++◌, codes, decimal, ◌==◌, slice_index_or}

-- the short names of the refusals, by number; no refusal has the number 0
abbrev pub refusal_names : List (List ℕ)
refusal_names =
    codes ""
    ∷ codes "no such place"
    ∷ codes "place taken"
    ∷ codes "bare place"
    ∷ codes "too long"
    ∷ codes "bad test"
    ∷ codes "missing unit"
    ∷ codes "loose bracket"
    ∷ codes "too deep"
    ∷ codes "too many tests"
    ∷ codes "too many tags"
    ∷ codes "repeated tag"
    ∷ codes "line too long"
    ∷ codes "short buffer"
    ∷ codes "misfit ends"
    ∷ codes "no match"
    ∷ []

-- the short name of the refusals of a number
abbrev pub refusal_name : ℕ → List ℕ
refusal_name n = slice_index_or refusal_names n []

-- a number of things, with an s unless there is one
abbrev pub counted : ℕ → List ℕ → List ℕ
counted n noun = decimal n ++ (codes " " ++ (noun ++ cond (n == 1) [] (codes "s")))
