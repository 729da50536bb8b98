use Rattle.std.proofs.Common.{length, take, drop}
use Rattle.text.specs.Texts.{Adds}
use Rattle.proofreading.specs.Reports.{number_lines}
use Rattle.proofreading.proofs.report.write_report.Given as goal

abbrev pub invariant-loop-number : goal.invariant-loop-number
invariant-loop-number l = Adds l.initial.out (number_lines 1 (take (length l.yielded) (drop 1 l.tally.by_number))) l.out
