use Rattle.std.proofs.Common.{◌≡◌, ℕ, ◌≤◌, ◌<◌, length}
use Rattle.sheet.specs.Entries.{entry}
use Rattle.parts.specs.Parts.{PartAlong, is_in}
use Rattle.parts.proofs.parts_along.Given as goal

abbrev pub invariant-loop-tag : goal.invariant-loop-tag
invariant-loop-tag l = record {
  eight : length l.sheet.entries ≡ 8;
  done : (t : ℕ) → 1 ≤ t → t < l.tag → PartAlong (is_in l.sets t) l.left l.trail (entry l.sheet.entries t);
}
