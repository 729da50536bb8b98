-- Unsigned LEB128: the number in groups of seven bits, the lowest first, a byte each, with the high bit set on all but the last byte.
use Rattle.std.specs.Prelude.{ℕ, zero, suc, ◌+◌, ◌*◌, ◌/◌, ◌%◌, ◌<◌, cond, List, [], ◌∷◌, nat_lt}

-- these bytes are the shortest form of the number: the last group is no 0, unless it is the only one
pub data Shortest : ℕ → List ℕ → Type 0 where
  last : {n : ℕ} → n < 128 → Shortest n (n ∷ [])
  more : {low n : ℕ} {bytes : List ℕ} → low < 128 → 0 < n → Shortest n bytes → Shortest (low + 128 * n) ((128 + low) ∷ bytes)

-- the bytes of a number, of which there are at most so many besides the last
abbrev pub groups : ℕ → ℕ → List ℕ
groups zero n = n ∷ []
groups (suc most) n = cond (nat_lt n 128) (n ∷ []) ((128 + n % 128) ∷ groups most (n / 128))

-- the bytes of a number, which has no more groups than the number says
abbrev pub leb128 : ℕ → List ℕ
leb128 n = groups n n
