use Rattle.cue.specs.Cursors.{cues_left}
use Rattle.cue.specs.Contents.{many}
use Rattle.crosscheck.proofs.cue_answers.WalkDisplay.fmt.Given as goal

abbrev pub decreases-loop-cue : goal.decreases-loop-cue
decreases-loop-cue g l = many (cues_left l.cursor)
