use Rattle.cue.specs.Leb128.{leb128}
use Rattle.text.proofs.Chains.{read_as}
use Rattle.std.proofs.Common.{ap, ◌∙◌}
use Rattle.cue.proofs.Scans.{parts_counted}
use Rattle.cue.proofs.Writes.{record_written}
use Rattle.cue.proofs.writing.record_text.Goals as goal

pub returns : goal.returns
returns c =
    record_written c.args.line.now c.args.entries.now c.new-record.ensures c.requires.short c.requires.eight c.requires.parts_fit
    (read_as (ap leb128 c.run_count.ensures) c.write_number.ensures) c.write_runs.ensures (read_as (ap leb128 (c.part_count.ensures ∙ parts_counted 1 c.args.entries.now)) c.write_number-2.ensures) c.write_parts.ensures
