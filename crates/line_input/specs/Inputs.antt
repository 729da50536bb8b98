-- What reading does to an input, to an output, and to what is held of a line.
use Rattle.std.specs.Prelude.{◌≡◌, ℕ, List, take, drop, Some, Ok, Err, Option, Result}
use Rattle.text.specs.Lines.{front, through}
use Rattle.line_input.specs.declared.Ending.{Ending}
use Rattle.line_input.specs.declared.Ending.TheVariants.{LineFeed}

-- an input and an output are left as they were, without an error
abbrev pub LeavesBoth : {I O V E : Type 0} → I → I → O → O → Result V E → Type 0
LeavesBoth before after was is (Ok done) = (after ≡ before) × (is ≡ was)
LeavesBoth before after was is (Err e) = ⊥

-- the first line of the bytes before is read, without an error, and with its line feed it alone is gone from them
abbrev pub ReadsFirst : {E : Type 0} → ℕ → List ℕ → List ℕ → List ℕ → Result (Option Ending) E → Type 0
ReadsFirst most before after line (Ok ending) = (ending ≡ Some LineFeed) × (line ≡ take most (front before)) × (after ≡ drop (through before) before)
ReadsFirst most before after line (Err e) = ⊥
