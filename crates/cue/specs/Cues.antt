-- What bytes come to that are read as the cue record of a line of so many symbols: runs and parts, one after another, and then that the
-- record is good, or its first fault. Offsets are those of the record's bytes.
use Rattle.std.specs.Prelude.{ℕ, zero, suc, ◌+◌, ◌-◌, ◌*◌, cond, ◌&&◌, ◌||◌, List, [], ◌∷◌, Ok, Err, Result, ◌==◌, nat_le, nat_lt}
use Rattle.cue.specs.declared.refusal.Fault.{Fault}
use Rattle.cue.specs.declared.refusal.Fault.TheVariants.{CutShort, LongNumber, BrokenRule}
use Rattle.cue.specs.declared.cursor.Cue.{Cue}
use Rattle.cue.specs.declared.cursor.Cue.TheVariants.{Run, TagPart}
use Rattle.cue.specs.Marks.{least_gap}

-- runs and parts one after another, and then that the record is good, or its first fault
pub data Cues : Type 0 where
  next : Cue → Cues → Cues
  good : Cues
  bad : Fault → Cues

-- what follows the first byte of a number that has the high bit: one byte more, from 1 to 127
abbrev pub second_byte : ℕ → ℕ → List ℕ → Result (ℕ × ℕ × List ℕ) Fault
second_byte at low [] = Err (CutShort (at + 1))
second_byte at low (high ∷ rest) = cond (high == 0 || nat_le 128 high) (Err (LongNumber at)) (Ok (low + 128 * high, at + 2, rest))

-- the number at the front of the bytes: its value, the offset behind it, and the bytes behind it
abbrev pub first_number : ℕ → List ℕ → Result (ℕ × ℕ × List ℕ) Fault
first_number at [] = Err (CutShort at)
first_number at (byte ∷ rest) = cond (nat_lt byte 128) (Ok (byte, at + 1, rest)) (second_byte at (byte - 128) rest)

-- a number at an offset that has to be from least to most
abbrev pub in_limits : ℕ → ℕ → ℕ → Result (ℕ × ℕ × List ℕ) Fault → Result (ℕ × ℕ × List ℕ) Fault
in_limits least most at (Ok x) = cond (nat_le least x.0 && nat_le x.0 most) (Ok x) (Err (BrokenRule at))
in_limits least most at (Err fault) = Err fault

-- the number at the front of the bytes, which has to be from least to most
abbrev pub number_within : ℕ → ℕ → ℕ → List ℕ → Result (ℕ × ℕ × List ℕ) Fault
number_within least most at bytes = in_limits least most at (first_number at bytes)

-- what comes of the bytes behind a number, or of its fault
abbrev pub after : Result (ℕ × ℕ × List ℕ) Fault → (ℕ → ℕ → List ℕ → Cues) → Cues
after (Ok x) go_on = go_on x.0 x.1 x.2
after (Err fault) go_on = bad fault

-- the run from left up to right, whose first number stands at the offset
abbrev pub run : ℕ → ℕ → ℕ → Cue
run at left right = Run (record { offset = at; left = left; right = right })

-- the part of a tag from left up to right, whose first number stands at the offset
abbrev pub tag_part : ℕ → ℕ → ℕ → ℕ → Cue
tag_part at tag left right = TagPart (record { offset = at; tag = tag; part = record { left = left; right = right } })

-- so many parts are to come, with tags from that one on, and then the record ends
abbrev pub parts_to_come : ℕ → ℕ → ℕ → ℕ → List ℕ → Cues
parts_to_come symbols zero least at [] = good
parts_to_come symbols zero least at (byte ∷ rest) = bad (BrokenRule at)
parts_to_come symbols (suc more) least at bytes =
    after (number_within least 8 at bytes) (λ tag behind_tag bytes_left.
    after (number_within 0 symbols behind_tag bytes_left) (λ start behind_start bytes_left.
    after (number_within 1 (symbols - start) behind_start bytes_left) (λ len behind bytes_left.
    next (tag_part at tag start (start + len)) (parts_to_come symbols more (tag + 1) behind bytes_left))))

-- so many runs are to come, the run before having ended there, and then the count of parts and the parts
abbrev pub runs_to_come : ℕ → ℕ → ℕ → ℕ → List ℕ → Cues
runs_to_come symbols zero end at bytes = after (first_number at bytes) (λ parts behind bytes_left. parts_to_come symbols parts 1 behind bytes_left)
runs_to_come symbols (suc more) end at bytes =
    after (number_within (least_gap end) (symbols - end) at bytes) (λ gap behind_gap bytes_left.
    after (number_within 1 (symbols - (end + gap)) behind_gap bytes_left) (λ len behind bytes_left.
    next (run at (end + gap) (end + gap + len)) (runs_to_come symbols more (end + gap + len) behind bytes_left)))

-- the count of runs, and what comes then
abbrev pub cues_of : ℕ → List ℕ → Cues
cues_of symbols bytes = after (first_number 0 bytes) (λ runs behind bytes_left. runs_to_come symbols runs 0 behind bytes_left)
