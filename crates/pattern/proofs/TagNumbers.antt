-- The tests of what is read have numbers from 1 to 64, and its tags numbers from 1 to 8.
use Rattle.std.proofs.Common.{ℕ, arith}
use Rattle.pattern.specs.TagWalks.{InRange}
use Rattle.pattern.specs.Descent.{Source, Out, good, bad, Want, group, branch, item, unit, branches, items, repeats, Parses, group_then, group_bad, branches_end, branches_or, branches_bad, branch_then, branch_bad, items_end, items_more, items_bad, item_then, item_bad, unit_test, unit_tests, unit_misread, unit_deep, unit_group, unit_group_bad, unit_group_loose, unit_tags, unit_tag, unit_tag_bad, unit_tag_loose, unit_none, repeats_end, repeats_star, repeats_star_tag, repeats_plus, repeats_plus_tag, repeats_opt}

-- what was read alone, or behind an expression that was read before
abbrev Ranged : Want → Out → Type 0
Ranged (group d) (good e j) = InRange e
Ranged (branch d) (good e j) = InRange e
Ranged (item d) (good e j) = InRange e
Ranged (unit d) (good e j) = InRange e
Ranged (branches d e₀) (good e j) = InRange e₀ → InRange e
Ranged (items d e₀) (good e j) = InRange e₀ → InRange e
Ranged (repeats e₀) (good e j) = InRange e₀ → InRange e
Ranged w (bad f) = Unit {0}

pub in_range : {s : Source} {w : Want} {i : ℕ} {o : Out} → Parses s w i o → Ranged w o
in_range (group_then {o = good e j} d r) = in_range r (in_range d)
in_range (group_then {o = bad f} d r) = tt
in_range (group_bad d) = tt
in_range (branches_end h) = λ a. a
in_range (branches_or {o = good g k} h d r) = λ a. in_range r (a, in_range d)
in_range (branches_or {o = bad f} h d r) = tt
in_range (branches_bad h d) = tt
in_range (branch_then {o = good e j} d r) = in_range r (in_range d)
in_range (branch_then {o = bad f} d r) = tt
in_range (branch_bad d) = tt
in_range (items_end h) = λ a. a
in_range (items_more {o = good g k} h d r) = λ a. in_range r (a, in_range d)
in_range (items_more {o = bad f} h d r) = tt
in_range (items_bad h d) = tt
in_range (item_then {o = good e j} d r) = in_range r (in_range d)
in_range (item_then {o = bad f} d r) = tt
in_range (item_bad d) = tt
in_range (unit_test h n) = (omega arith, omega arith)
in_range (unit_tests h n) = tt
in_range (unit_misread h) = tt
in_range (unit_deep h n) = tt
in_range (unit_group h n d m) = in_range d
in_range (unit_group_bad h n d) = tt
in_range (unit_group_loose h n d m) = tt
in_range (unit_tags h n m) = tt
in_range (unit_tag h n g d m) = (omega arith, omega arith, in_range d)
in_range (unit_tag_bad h n g d) = tt
in_range (unit_tag_loose h n g d m) = tt
in_range (unit_none h) = tt
in_range (repeats_end h) = λ a. a
in_range (repeats_star {o = good g k} h n r) = λ a. in_range r a
in_range (repeats_star {o = bad f} h n r) = tt
in_range (repeats_star_tag h n) = tt
in_range (repeats_plus {o = good g k} h n r) = λ a. in_range r a
in_range (repeats_plus {o = bad f} h n r) = tt
in_range (repeats_plus_tag h n) = tt
in_range (repeats_opt {o = good g k} h r) = λ a. in_range r a
in_range (repeats_opt {o = bad f} h r) = tt
