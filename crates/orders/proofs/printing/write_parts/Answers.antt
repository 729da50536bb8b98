use Rattle.std.proofs.Common.{take, ap, ◌∙◌}
use Rattle.text.proofs.Chains.{◌then◌, read_as}
use Rattle.orders.specs.Printing.{tags_text}
use Rattle.orders.proofs.Pushes.{first_or_all}
use Rattle.orders.proofs.printing.write_parts.Goals as goal

pub returns : goal.returns
returns c =
    let entries = c.entries-entries.result.now in
    let cut = ap (λ n. take n entries) c.min.ensures ∙ first_or_all c.args.tags entries ∙ ap (take c.args.tags) c.entries-entries.ensures.value in
    c.text.ensures then read_as (ap (tags_text 1) cut) c.write_tags.ensures then c.byte.ensures
