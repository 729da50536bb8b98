use Rattle.std.specs.Prelude.{◌≡◌, ℕ, ◌/◌, ◌%◌, ◌^◌, Bool, ◌==◌}

-- bit k of x is set: the position k is in the set x
pub record In (x k : ℕ) : Type 0 where
  pub is : (x / 2 ^ k) % 2 ≡ 1

-- whether the position k is in the set x
abbrev pub bit : ℕ → ℕ → Bool
bit x k = (x / 2 ^ k) % 2 == 1
