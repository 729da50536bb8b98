-- The eight signs of a pattern.
use Rattle.std.specs.Prelude.{◌≡◌, ℕ, Bool, false, ◌||◌, List, [], ◌∷◌, ◌==◌}

-- the byte is one of the eight signs | * + ? ( ) { }
abbrev pub is_sign : ℕ → Bool
is_sign b = b == 124 || (b == 42 || (b == 43 || (b == 63 || (b == 40 || (b == 41 || (b == 123 || b == 125))))))

-- there is a first byte, and it is no sign
abbrev pub BeginsNoSign : List ℕ → Type 0
BeginsNoSign [] = ⊥
BeginsNoSign (b ∷ bytes) = is_sign b ≡ false
