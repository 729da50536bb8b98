-- What a text holds.
use Rattle.std.specs.Prelude.{◌≡◌, ℕ, List, ◌++◌, take}
use Rattle.text.specs.declared.buffer.Text.{Text}

-- the bytes that a text holds
abbrev pub written : Text → List ℕ
written t = t.bytes.items

-- after holds what before holds and then bs, as much of it as there is room for
pub record Adds (before : Text) (bs : List ℕ) (after : Text) : Type 0 where
  pub bytes : written after ≡ take 4096 (written before ++ bs)
