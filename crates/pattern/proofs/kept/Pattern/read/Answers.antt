use Rattle.std.proofs.Common.{◌≤◌, length, ap, ◌∙◌, arith}
use Rattle.pattern.specs.Scanning.{scanned}
use Rattle.pattern.proofs.Derivations.{exactly}
use Rattle.pattern.proofs.kept.Pattern.read.Goals as goal

pub returns-clause-exactly_what_the_grammar_derives :
    goal.returns-clause-exactly_what_the_grammar_derives
returns-clause-exactly_what_the_grammar_derives g c =
    let short : length c.args.bytes.now ≤ 120 = omega arith in
    exactly _ _ short c.parse.result (c.parse.ensures ∙ ap (scanned (length c.args.bytes.now)) (c.deref.ensures.0 ∙ c.cut.ensures.value))
