use Rattle.std.proofs.Common.{◌≤◌, length, drop}
use Rattle.text.specs.declared.buffer.Text.{Text}
use Rattle.text.specs.Texts.{Adds}
use Rattle.cue.specs.Marks.{runs_of}
use Rattle.cue.specs.Records.{run_bytes}
use Rattle.cue.proofs.Scans.{pieces, runs_in}
use Rattle.cue.proofs.writing.write_runs.Given as goal

abbrev pub invariant-loop-run : goal.invariant-loop-run
invariant-loop-run l =
    ((u : Text) → Adds l.out (run_bytes (runs_in l.gap (drop (length l.yielded) (pieces l.marks)))) u → Adds l.initial.out (run_bytes (runs_of l.marks)) u)
    × (l.gap ≤ length l.yielded)
