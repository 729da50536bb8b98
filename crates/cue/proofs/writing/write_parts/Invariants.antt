use Rattle.std.proofs.Common.{◌+◌, drop}
use Rattle.text.specs.declared.buffer.Text.{Text}
use Rattle.text.specs.Texts.{Adds}
use Rattle.cue.specs.Records.{parts_from, part_bytes}
use Rattle.cue.proofs.writing.write_parts.Given as goal

abbrev pub invariant-loop-k : goal.invariant-loop-k
invariant-loop-k l = (u : Text) → Adds l.out (part_bytes (parts_from (l.k + 1) (drop l.k l.entries))) u → Adds l.initial.out (part_bytes (parts_from 1 l.entries)) u
