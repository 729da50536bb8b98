use Rattle.std.proofs.Common.{sym}
use Rattle.std.proofs.lemmas.Bool.{eq-eqb, ne_eqb, cond-true, cond-false}
use Rattle.text.proofs.Chains.{◌then◌, nothing, read_as}
use Rattle.proofreading.proofs.words.write_count.Goals as goal

pub returns-then-n-ne1 : goal.returns-then-n-ne1
returns-then-n-ne1 c =
    c.number.ensures then c.byte.ensures then c.text.ensures then read_as (sym (cond-false _ _ _ (ne_eqb c.args.n 1 c.if-n-ne1.true))) c.byte-then-n-ne1.ensures

pub returns-else-n-ne1 : goal.returns-else-n-ne1
returns-else-n-ne1 c =
    c.number.ensures then c.byte.ensures then c.text.ensures then read_as (sym (cond-true _ _ _ (eq-eqb c.args.n 1 c.if-n-ne1.false))) (nothing _)
