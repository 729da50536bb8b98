use Rattle.std.proofs.Common.{sym, ◌∙◌, subst}
use Rattle.pattern.specs.TagWalks.{InRange}
use Rattle.pattern.proofs.Tables.{stands_tree}
use Rattle.pattern.proofs.TagSpreads.{spread_all}
use Rattle.pattern.proofs.tagging.tag_sets.Goals as goal

pub returns : goal.returns
returns c = λ e s.
    let same = sym (stands_tree c.requires.stands 240 c.requires.in_table) ∙ stands_tree s 240 c.requires.in_table in
    spread_all e c.spread.new.sets (subst InRange same c.requires.in_range) (c.spread.ensures e s)
