-- What the first fault of bytes that are no record tells of them: what stands at its offset, that nothing before it is
-- wrong, and that it is one whatever follows.
use Rattle.std.specs.Prelude.{◌≡◌, ℕ, ◌+◌, ◌<◌, ◌⊎◌, List, ◌++◌, length, take, slice_index, IfErr}
use Rattle.cue.specs.declared.refusal.Fault.{Fault}
use Rattle.cue.specs.declared.refusal.Fault.TheVariants.{CutShort, LongNumber, BrokenRule}
use Rattle.cue.specs.declared.refusal.Refusal.{Refusal}
use Rattle.cue.specs.declared.refusal.Refusal.TheVariants.{LineTooLong, BufferTooShort, PartMisfits, NoRecord}
use Rattle.cue.specs.Faults.{fault_offset}
use Rattle.cue.specs.Answers.{content_of, IsRecord}

-- a number begins there that is not in its shortest form, or too long: its first byte has the high bit, and its second is 0 or above 127
pub record LongFrom (bytes : List ℕ) (at : ℕ) : Type 0 where
  pub two : at + 1 < length bytes
  pub high_bit : 127 < slice_index bytes at
  pub second : (slice_index bytes (at + 1) ≡ 0) ⊎ (127 < slice_index bytes (at + 1))

-- what stands at a fault's offset: the record's end, such a number, or a byte
abbrev pub StandsAt : List ℕ → Fault → Type 0
StandsAt bytes (CutShort at) = at ≡ length bytes
StandsAt bytes (LongNumber at) = LongFrom bytes at
StandsAt bytes (BrokenRule at) = at < length bytes

-- nothing is wrong with bytes but that they may be cut short
abbrev pub RightSoFar : ℕ → List ℕ → Type 0
RightSoFar symbols bytes = IfErr (content_of symbols bytes) (λ fault. fault ≡ CutShort (length bytes))

-- no record of such a line begins as the bytes do, as far as the byte behind an offset
abbrev pub NoneBegins : ℕ → List ℕ → ℕ → Type 0
NoneBegins symbols bytes at = (behind : List ℕ) → IsRecord symbols (take (at + 2) bytes ++ behind) → ⊥

-- where bytes are not cut short, whatever follows makes no record of them
abbrev pub Stays : ℕ → List ℕ → Fault → Type 0
Stays symbols bytes (CutShort at) = Unit {0}
Stays symbols bytes (LongNumber at) = NoneBegins symbols bytes at
Stays symbols bytes (BrokenRule at) = NoneBegins symbols bytes at

-- the fault is the first one of these bytes, which are read as the record of a line of so many symbols
pub record IsFirst (symbols : ℕ) (bytes : List ℕ) (fault : Fault) : Type 0 where
  pub stands : StandsAt bytes fault
  pub right_before : RightSoFar symbols (take (fault_offset fault) bytes)
  pub stays : Stays symbols bytes fault

-- where it is the bytes that are refused, it is for their first fault
abbrev pub RefusedForFirst : ℕ → List ℕ → Refusal → Type 0
RefusedForFirst symbols bytes (NoRecord fault) = IsFirst symbols bytes fault
RefusedForFirst symbols bytes LineTooLong = Unit {0}
RefusedForFirst symbols bytes BufferTooShort = Unit {0}
RefusedForFirst symbols bytes PartMisfits = Unit {0}
