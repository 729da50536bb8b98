-- What writing and reading a cue record answer, and what they leave.
use Rattle.std.specs.Prelude.{◌≡◌, ℕ, ◌-◌, ◌≤◌, true, cond, List, ◌++◌, length, take, drop, replicate, Some, None, Ok, Err, Option, Result, nat_le}
use Rattle.sheet.specs.declared.Part.{Part}
use Rattle.sheet.specs.declared.Sheet.{Sheet}
use Rattle.sheet.specs.Entries.{with_entry}
use Rattle.cue.specs.declared.refusal.Fault.{Fault}
use Rattle.cue.specs.declared.refusal.Refusal.{Refusal}
use Rattle.cue.specs.declared.refusal.Refusal.TheVariants.{LineTooLong, BufferTooShort, PartMisfits, NoRecord}
use Rattle.cue.specs.declared.cursor.Cue.TheVariants.{Run, TagPart}
use Rattle.cue.specs.Marks.{marks}
use Rattle.cue.specs.Records.{record_of, all_fit}
use Rattle.cue.specs.Cues.{Cues, next, good, bad, cues_of}

-- the refusal with which writing and reading begin, if one is due: by the line's length, by the room for the marks
abbrev pub line_check : ℕ → ℕ → Result (Unit {0}) Refusal
line_check symbols room = cond (nat_le symbols 160) (cond (nat_le symbols room) (Ok tt) (Err BufferTooShort)) (Err LineTooLong)

-- the record that is written, or the refusal: by the line's length, by the room of the marks, by the parts, by the room of the output
abbrev pub writing : ℕ → List ℕ → List (Option Part) → ℕ → Result (List ℕ) Refusal
writing symbols given entries room =
    cond (nat_le symbols 160)
    (cond (nat_le symbols (length given))
    (cond (all_fit symbols entries)
    (cond (nat_le (length (record_of (take symbols given) entries)) room) (Ok (record_of (take symbols given) entries)) (Err BufferTooShort))
    (Err PartMisfits))
    (Err BufferTooShort))
    (Err LineTooLong)

-- the record stands at the front of the output, what stands behind is as it was, and the answer is its length; a refusal writes nothing
abbrev pub WrittenAfter : Result (List ℕ) Refusal → List ℕ → List ℕ → Result ℕ Refusal → Type 0
WrittenAfter (Ok bytes) before after r = (r ≡ Ok (length bytes)) × (after ≡ bytes ++ drop (length bytes) before)
WrittenAfter (Err refusal) before after r = (r ≡ Err refusal) × (after ≡ before)

-- the marks with those of a run set
abbrev pub with_run : ℕ → ℕ → List ℕ → List ℕ
with_run left right ms = take left ms ++ (replicate (right - left) 1 ++ drop right ms)

-- marks and entries with the runs and parts that come, or the fault
abbrev pub filled : Cues → List ℕ → List (Option Part) → Result (List ℕ × List (Option Part)) Fault
filled (next (Run run) cues) ms entries = filled cues (with_run run.left run.right ms) entries
filled (next (TagPart one) cues) ms entries = filled cues ms (with_entry entries one.tag (Some one.part))
filled good ms entries = Ok (ms, entries)
filled (bad fault) ms entries = Err fault

-- the marks and entries that a record gives for a line of so many symbols, or its first fault
abbrev pub content_of : ℕ → List ℕ → Result (List ℕ × List (Option Part)) Fault
content_of symbols bytes = filled (cues_of symbols bytes) (replicate symbols 0) (replicate 8 None)

-- the same, the fault as a refusal
abbrev pub no_record : Result (List ℕ × List (Option Part)) Fault → Result (List ℕ × List (Option Part)) Refusal
no_record (Ok x) = Ok x
no_record (Err fault) = Err (NoRecord fault)

-- what is read, or the refusal: by the line's length, by the room for the marks, by the bytes
abbrev pub reading : ℕ → ℕ → List ℕ → Result (List ℕ × List (Option Part)) Refusal
reading symbols room bytes = cond (nat_le symbols 160) (cond (nat_le symbols room) (no_record (content_of symbols bytes)) (Err BufferTooShort)) (Err LineTooLong)

-- the marks stand at the front of the buffer, what stands behind is as it was, and the sheet has the parts; a refusal changes nothing
abbrev pub ReadAfter : Result (List ℕ × List (Option Part)) Refusal → ℕ → List ℕ → List ℕ → Sheet → Sheet → Result (Unit {0}) Refusal → Type 0
ReadAfter (Ok x) symbols before after sheet_before sheet_after r = (r ≡ Ok tt) × (after ≡ x.0 ++ drop symbols before) × (sheet_after.entries ≡ x.1)
ReadAfter (Err refusal) symbols before after sheet_before sheet_after r = (r ≡ Err refusal) × (after ≡ before) × (sheet_after ≡ sheet_before)

-- marks and entries of a line of so many symbols
pub record Fitting (symbols : ℕ) (ms : List ℕ) (entries : List (Option Part)) : Type 0 where
  pub short : symbols ≤ 160
  pub one_each : length ms ≡ symbols
  pub eight : length entries ≡ 8
  pub parts_fit : all_fit symbols entries ≡ true

-- the bytes are the record of some marks and entries of such a line
pub record IsRecord (symbols : ℕ) (bytes : List ℕ) : Type 0 where
  pub ms : List ℕ
  pub entries : List (Option Part)
  pub fitting : Fitting symbols ms entries
  pub is : bytes ≡ record_of ms entries

-- what was written is read back as it was (its marks as 1 and 0), and what is read gives the same bytes when it is written
pub record RoundTrip (symbols : ℕ) (bytes : List ℕ) : Type 0 where
  pub written_is_read : (ms : List ℕ) (entries : List (Option Part)) → Fitting symbols ms entries → bytes ≡ record_of ms entries → content_of symbols bytes ≡ Ok (marks ms, entries)
  pub read_is_written : (ms : List ℕ) (entries : List (Option Part)) → symbols ≤ 160 → content_of symbols bytes ≡ Ok (ms, entries) → Fitting symbols ms entries × (marks ms ≡ ms) × (record_of ms entries ≡ bytes)
