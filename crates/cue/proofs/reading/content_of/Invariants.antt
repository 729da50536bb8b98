use Rattle.std.proofs.Common.{◌≡◌, length, take}
use Rattle.cue.specs.Answers.{filled, content_of}
use Rattle.cue.specs.Cursors.{cues_left}
use Rattle.cue.specs.Contents.{AllFit, many}
use Rattle.cue.proofs.reading.content_of.Given as goal

abbrev pub invariant-loop-cue : goal.invariant-loop-cue
invariant-loop-cue l =
    (filled (cues_left l.cursor) (take l.symbols l.found.marks) l.found.sheet.entries ≡ content_of l.symbols l.bytes)
    × AllFit l.symbols (cues_left l.cursor)
    × (length l.found.marks ≡ 160)

abbrev pub decreases-loop-cue : goal.decreases-loop-cue
decreases-loop-cue l = many (cues_left l.cursor)
