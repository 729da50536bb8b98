-- The law of every run: whatever calls are made on a new shelf, one after another, what each of them is answered.
use Rattle.std.specs.Prelude.{◌≡◌, ℕ, ◌<◌, Bool, List, [], ◌∷◌, length, take, drop, Ok, Err, Result}
use Rattle.std.specs.declared.cmp.Ordering.{Ordering}
use Rattle.pattern.specs.Tokens.{Reading}
use Rattle.sheet.specs.declared.Sheet.{Sheet}
use Rattle.shelf.specs.declared.Shelf.{Shelf}
use Rattle.shelf.specs.declared.refusal.Refusal.{Refusal}
use Rattle.shelf.specs.declared.refusal.Refusal.TheVariants.{BufferTooShort}
use Rattle.shelf.specs.Histories.{Act, a_filing, a_withdrawal, a_longest_call, a_marking, a_splitting, register_of, FilingRight, WithdrawalRight, LongestRight, MarkingRight, SplittingRight, AsLeftBy}
use Rattle.shelf.specs.Places.{Register}
use Rattle.histories.specs.declared.Answer.{Answer}
use Rattle.histories.specs.declared.Answer.TheVariants.{Filed, Withdrawn, Longest as LongestAnswer, Marked, Split as SplitAnswer}
use Rattle.histories.specs.declared.Call.{Call}
use Rattle.histories.specs.declared.Call.TheVariants.{File, Withdraw, Longest, Mark, Split}
use Rattle.histories.specs.declared.Marking.{Marking}
use Rattle.histories.specs.declared.Splitting.{Splitting}

-- the act that a marking is: its place and line, and the room for marks
abbrev pub marking_act : {S : Type 0} → Marking S → Act S
marking_act call = a_marking call.place call.line.now (length call.marks.now)

-- the act that a splitting is: its place, line and ends, and the room for the trail and for measures
abbrev pub splitting_act : {S R M : Type 0} → Splitting S R M → Act S
splitting_act call = a_splitting call.place call.line.now call.left call.right (length call.trail.now) (length call.work.now)

-- the act that a call is
abbrev pub act : {S R M : Type 0} → Call S R M → Act S
act (File place bytes) = a_filing place bytes.now
act (Withdraw place) = a_withdrawal place
act (Longest place line) = a_longest_call place line.now
act (Mark call) = marking_act call
act (Split call) = splitting_act call

-- the acts with these calls after them, the latest first
abbrev pub acts_after : {S R M : Type 0} → List (Act S) → List (Call S R M) → List (Act S)
acts_after acts [] = acts
acts_after acts (call ∷ calls) = acts_after (act call ∷ acts) calls

-- a marking is right by what it answers and writes, and it writes nowhere but in the buffer that it lends
abbrev pub MarkingOnly : {S : Type 0} → (ℕ → S → Bool) → Register → Marking S → Marking S → Result ℕ Refusal → Type 0
MarkingOnly meaning register call after result =
    (marks : List ℕ)
    × (after ≡ record call { marks = record call.marks { now = marks } })
    × MarkingRight meaning register call.place call.line.now call.marks.now marks result

-- the rankings of a list, each with measures of its own
module _ {S R M : Type 0} {Measure : R → Type 0} (start : (r : R) → Measure r) (stepped : (r : R) → Measure r → ℕ → Measure r) (compared : (r : R) → Measure r → Measure r → Ordering) where
  -- a splitting likewise, by the ranking that it names; what it leaves in the buffer for its work is free
  abbrev pub SplittingOnly : (ℕ → S → Bool) → Register → Splitting S R M → Splitting S R M → Result (Unit {0}) Refusal → Type 0
  SplittingOnly meaning register call after result =
      (trail : List ℕ) × (sheet : Sheet) × (work : List M)
      × (length work ≡ length call.work.now)
      × (after ≡ record call { trail = record call.trail { now = trail }; sheet = record call.sheet { now = sheet }; work = record call.work { now = work } })
      × SplittingRight (start call.ranking.now) (stepped call.ranking.now) (compared call.ranking.now) meaning register call.place call.line.now call.left call.right (length call.work.now) call.trail.now trail call.sheet.now.entries sheet.entries result

  -- the answer is of the call's kind, and right by the register as the call begins; and the call is as it was, but for what it wrote in
  -- the buffers that it lends
  abbrev pub Right : (ℕ → S → Bool) → Reading → Register → Call S R M → Call S R M → Answer → Type 0
  Right meaning reading register (File place bytes) after answer =
      (result : _) × (answer ≡ Filed result) × (after ≡ File place bytes) × FilingRight reading register place bytes.now result
  Right meaning reading register (Withdraw place) after answer =
      (result : _) × (answer ≡ Withdrawn result) × (after ≡ Withdraw place) × WithdrawalRight register place result
  Right meaning reading register (Longest place line) after answer =
      (result : _) × (answer ≡ LongestAnswer result) × (after ≡ Longest place line) × LongestRight meaning register place line.now result
  Right meaning reading register (Mark call) after answer =
      (result : _) × (answer ≡ Marked result) × (call' : _) × (after ≡ Mark call') × MarkingOnly meaning register call call' result
  Right meaning reading register (Split call) after answer =
      (result : _) × (answer ≡ SplitAnswer result) × (call' : _) × (after ≡ Split call') × SplittingOnly meaning register call call' result

  -- the calls have an answer each, right by the register of the acts before it
  abbrev pub AllRight : (ℕ → S → Bool) → Reading → List (Act S) → List (Call S R M) → List (Call S R M) → List Answer → Type 0
  AllRight meaning reading acts [] [] [] = Unit {0}
  AllRight meaning reading acts (call ∷ calls) (after ∷ afters) (answer ∷ answers) =
      Right meaning reading (register_of reading acts) call after answer × AllRight meaning reading (act call ∷ acts) calls afters answers
  AllRight meaning reading acts _ _ _ = ⊥

  -- From the shelf's making on every call has the answer that is right, at the front of the answers, and what stands behind is as it
  -- was; and the shelf is as these acts leave one. With fewer answers than calls none is made: calls and answers are as they were, and
  -- the shelf is as it is made.
  abbrev pub RunRight : {N : Type 0} → (N → ℕ → S → Bool) → (N → Reading) → N → List (Call S R M) → List (Call S R M) → List Answer → List Answer → Shelf N S → Result (Unit {0}) Refusal → Type 0
  RunRight meaning reading notation calls after before answers shelf (Ok _) =
      AllRight (meaning notation) (reading notation) [] calls after (take (length calls) answers)
      × (drop (length calls) answers ≡ drop (length calls) before)
      × AsLeftBy meaning reading notation (acts_after [] calls) shelf
  RunRight meaning reading notation calls after before answers shelf (Err refusal) =
      (refusal ≡ BufferTooShort) × (length before < length calls) × (after ≡ calls) × (answers ≡ before) × AsLeftBy meaning reading notation [] shelf
