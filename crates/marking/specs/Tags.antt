-- How many tags the patterns of a shelf have.
use Rattle.std.specs.Prelude.{ℕ, Some, None, Option}
use Rattle.pattern.specs.declared.kept.Pattern.{Pattern}
use Rattle.pattern.specs.Patterns.{syntax}

-- the number of tags of what stands at a place, and 0 where nothing stands
abbrev pub tags_at : Option Pattern → ℕ
tags_at None = 0
tags_at (Some p) = (syntax p).tags
