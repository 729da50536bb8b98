use Rattle.std.proofs.Common.{◌≡◌, length, take, ◌∙◌, arith, rules}
use Rattle.pattern.specs.Trees.{tree}
use Rattle.pattern.proofs.Spells.{has_words}
use Rattle.pattern.proofs.kept.Pattern.automaton.Goals as goal

pub returns : goal.returns
returns c =
    let p = c.args.self.now in
    let all : p.tests ≡ length (take p.tests p.codes) = search rules in
    has_words (tree 240 p.nodes p.root) p.machine (record { empty = p.empty; first = p.beginnings; last = p.endings; follow = p.followings }) p.ordered (omega (arith, p.counted, p.few)) (length (take p.tests p.codes)) (p.counted ∙ all)
