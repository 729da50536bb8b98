-- How the bytes of a pattern are shown on a line of text.
use Rattle.std.specs.List.{flat_map}
use Rattle.std.specs.Prelude.{◌≡◌, ℕ, ◌+◌, ◌/◌, ◌%◌, ◌≤◌, Bool, cond, ◌&&◌, List, [], ◌∷◌, ◌++◌, length, take, drop, replicate, Some, None, codes, Option, nat_le, nat_lt}

-- the sign of a hexadecimal digit: 0 to 9, and then A to F
abbrev pub hex_digit : ℕ → ℕ
hex_digit d = cond (nat_lt d 10) (48 + d) (55 + d)

-- the byte prints: it is one from the space to the tilde
abbrev pub prints : ℕ → Bool
prints b = nat_le 32 b && nat_le b 126

-- a byte that prints is shown as itself, any other as \x and its two hexadecimal digits
abbrev pub shown_byte : ℕ → List ℕ
shown_byte b = cond (prints b) (b ∷ []) (codes "\\x" ++ (hex_digit (b / 16) ∷ hex_digit (b % 16) ∷ []))

-- the bytes of a list as they are shown, one after another
abbrev pub shown : List ℕ → List ℕ
shown bs = flat_map shown_byte bs

-- the first 120 bytes of the pattern, and dots where it has more
abbrev pub pattern_line : List ℕ → List ℕ
pattern_line bs = codes "    " ++ (shown (take 120 bs) ++ cond (nat_lt 120 (length bs)) (codes "...\n") (codes "\n"))

-- a caret below the first column of the byte at the offset, or below the end
abbrev pub caret_line : List ℕ → Option ℕ → List ℕ
caret_line bs None = []
caret_line bs (Some at) = codes "    " ++ (replicate (length (shown (take at (take 120 bs)))) 32 ++ codes "^\n")

-- the column of the line at which the byte at an offset begins
abbrev pub column : List ℕ → ℕ → ℕ
column bs at = 4 + length (shown (take at bs))

-- Of a pattern that is shown whole, the caret stands below the column where the byte at its offset begins, or where
-- the line ends.
abbrev pub CaretStandsBelow : Type 0
CaretStandsBelow =
    (bs : List ℕ) (at : ℕ) → at ≤ length bs → length bs ≤ 120
    → (drop (column bs at) (pattern_line bs) ≡ shown (drop at bs) ++ codes "\n")
    × (caret_line bs (Some at) ≡ replicate (column bs at) 32 ++ codes "^\n")
