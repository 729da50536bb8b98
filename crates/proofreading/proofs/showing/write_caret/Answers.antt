use Rattle.std.proofs.Common.{take, sym, ap, ◌∙◌}
use Rattle.text.proofs.Chains.{◌then◌, read_as}
use Rattle.proofreading.specs.Showing.{shown, caret_line}
use Rattle.proofreading.proofs.Pushes.{blank}
use Rattle.proofreading.proofs.showing.write_caret.Goals as goal

pub returns-in-Some : goal.returns-in-Some
returns-in-Some c =
    let before = c.first-in-Some.ensures ∙ ap (take c.in-Some.at) c.first.ensures in
    read_as (sym (ap (caret_line c.args.bytes.now) c.in-Some.is))
    (c.text.ensures then read_as (ap (λ bs. blank (shown bs)) before) c.write_blank.ensures then c.text-in-Some.ensures)
