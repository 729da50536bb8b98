use Rattle.std.proofs.Common.{not, eqb, length, rules, tests, sym, ap, ◌∙◌}
use Rattle.std.proofs.lemmas.Iterator.Consumers.{count_from_yields_List, YieldsList-from_filter, YieldsList-at}
use Rattle.std.proofs.lemmas.Iterator.Splits.{YieldsList-from_slice_split}
use Rattle.cue.proofs.Scans.{pieces, runs_of_pieces, runs_counted}
use Rattle.cue.proofs.writing.run_count.Goals as goal

pub returns : goal.returns
returns c =
    count_from_yields_List c.filter.result _ c.count.ensures.ran
    (YieldsList-from_filter _ (λ run. not (eqb (length run) 0))
    (YieldsList-at c.filter.ensures.source (YieldsList-from_slice_split _ (λ mark. eqb mark 0) c.args.marks.now c.split.ensures.rest c.split.ensures.done c.split.ensures.closure (λ x r q k. search (rules, tests))))
    c.filter.ensures.closure (λ x r q k. search (rules, tests)))
    ∙ runs_counted 0 (pieces c.args.marks.now)
    ∙ ap length (sym (runs_of_pieces c.args.marks.now))
