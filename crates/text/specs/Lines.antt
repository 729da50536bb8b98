-- A line of the input, and the front of it that is held.
use Rattle.std.specs.Prelude.{◌≡◌, ℕ, ◌+◌, Bool, true, false, cond, List, [], ◌∷◌, ◌++◌, length, take, ◌==◌}
use Rattle.text.specs.declared.line.LineBuffer.{LineBuffer}

-- what is held of a line
abbrev pub held : {most : ℕ} → LineBuffer most → List ℕ
held b = b.bytes.items

-- the bytes before the first line feed
abbrev pub front : List ℕ → List ℕ
front [] = []
front (b ∷ bs) = cond (b == 10) [] (b ∷ front bs)

-- whether there is a line feed
abbrev pub ends : List ℕ → Bool
ends [] = false
ends (b ∷ bs) = cond (b == 10) true (ends bs)

-- how many bytes there are up to and with the first line feed, or in all
abbrev pub through : List ℕ → ℕ
through bs = cond (ends bs) (length (front bs) + 1) (length bs)

-- A chunk with no line feed and then another come to what the two in one come to, in what is held, in the count of
-- bytes that are done with, and in whether the line ended.
abbrev pub CutsAnywhere : ℕ → Type 0
CutsAnywhere most =
    (h a b : List ℕ) → ends a ≡ false
    → (take most (take most (h ++ front a) ++ front b) ≡ take most (h ++ front (a ++ b)))
    × (length a + through b ≡ through (a ++ b))
    × (ends b ≡ ends (a ++ b))
