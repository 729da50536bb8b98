-- Every history of a shelf: the acts on it, the register that they make, and what is right to answer to each call.
use Rattle.std.specs.Prelude.{◌≡◌, ℕ, Bool, cond, ◌≢◌, List, [], ◌∷◌, length, Some, None, Ok, Err, Option, Result, ◌==◌, nat_lt}
use Rattle.std.specs.declared.cmp.Ordering.{Ordering}
use Rattle.pattern.specs.declared.fault.Fault.{Fault}
use Rattle.pattern.specs.Expressions.{Syntax}
use Rattle.pattern.specs.Scanning.{syntax_of}
use Rattle.pattern.specs.Tokens.{Reading, SameReading}
use Rattle.sheet.specs.declared.Part.{Part}
use Rattle.shelf.specs.declared.Shelf.{Shelf}
use Rattle.shelf.specs.declared.refusal.Refusal.{Refusal}
use Rattle.shelf.specs.Filing.{filing_in, counts, taken_away}
use Rattle.shelf.specs.Places.{Register, held_at, standing_in}
use Rattle.shelf.specs.Reports.{asked_in, with_room, LongestBy, MarksBy}
use Rattle.shelf.specs.Splits.{for_split, SplitBy}

-- An act on a shelf is a call with its arguments, carried out or turned down. Of a buffer it has the room. A ranking is no part of what
-- stands where, and no act has one.
pub data Act (S : Type 0) : Type 0 where
  -- the place and the bytes
  a_filing : ℕ → List ℕ → Act S
  -- the place
  a_withdrawal : ℕ → Act S
  -- the place and the line
  a_longest_call : ℕ → List S → Act S
  -- these, and the room for marks
  a_marking : ℕ → List S → ℕ → Act S
  -- the place, the line, the two ends, and the room for the trail and for measures
  a_splitting : ℕ → List S → ℕ → ℕ → ℕ → ℕ → Act S

-- at a shelf's making the register has nothing at any place
abbrev pub nothing_filed : Register
nothing_filed place = None

-- the register with this at a place, and what it had at every other
abbrev pub with_at : Register → ℕ → Option Syntax → Register
with_at register place it k = cond (k == place) it (register k)

-- a lawful pattern is put at the place
abbrev pub put_if_lawful : Register → ℕ → Result Syntax Fault → Register
put_if_lawful register place (Ok x) = with_at register place (Some x)
put_if_lawful register place (Err fault) = register

-- filing a lawful pattern at a place 0 to 9 that has nothing puts it there; another filing changes nothing
abbrev pub after_filing : Reading → Register → ℕ → List ℕ → Register
after_filing reading register place bytes =
    cond (nat_lt place 10)
    (elim (register place) [ None ↦ put_if_lawful register place (syntax_of reading bytes) | Some x ↦ register ])
    register

-- withdrawing at a place that has a pattern takes it away; another withdrawal changes nothing
abbrev pub after_withdrawal : Register → ℕ → Register
after_withdrawal register place = elim (register place) [ None ↦ register | Some x ↦ with_at register place None ]

-- the register after one act more; a call that reports of a line changes nothing
abbrev pub next : {S : Type 0} → Reading → Register → Act S → Register
next reading register (a_filing place bytes) = after_filing reading register place bytes
next reading register (a_withdrawal place) = after_withdrawal register place
next reading register (a_longest_call place line) = register
next reading register (a_marking place line room) = register
next reading register (a_splitting place line left right trail_room work_room) = register

-- the register of a history: of acts from the shelf's making on, the latest first
abbrev pub register_of : {S : Type 0} → Reading → List (Act S) → Register
register_of reading [] = nothing_filed
register_of reading (act ∷ acts) = next reading (register_of reading acts) act

-- some place has something else than it had
pub record Changed (before after : Register) : Type 0 where
  pub place : ℕ
  pub otherwise : after place ≢ before place

-- every place has what it had
abbrev pub Unchanged : Register → Register → Type 0
Unchanged before after = (place : ℕ) → after place ≡ before place

-- the call is carried out, and not turned down, exactly when it changes the register
abbrev pub CarriedOutExactly : {A : Type 0} → Register → Register → Result A Refusal → Type 0
CarriedOutExactly before after (Ok answer) = Changed before after
CarriedOutExactly before after (Err refusal) = Unchanged before after

-- a filing answers how many tests and tags the pattern has, or the refusal that is due by the register, and is carried out exactly when
-- it changes the register
pub record FilingRight (reading : Reading) (register : Register) (place : ℕ) (bytes : List ℕ) (result : Result (ℕ × ℕ) Refusal) : Type 0 where
  pub carried_out : CarriedOutExactly register (after_filing reading register place bytes) result
  pub answer : result ≡ counts (filing_in reading register place bytes)

-- a withdrawal likewise
pub record WithdrawalRight (register : Register) (place : ℕ) (result : Result (Unit {0}) Refusal) : Type 0 where
  pub carried_out : CarriedOutExactly register (after_withdrawal register place) result
  pub answer : result ≡ taken_away (standing_in register place)

-- In good form a longest call answers the longest stretch by the pattern that the register has at the place, or that no stretch reads.
-- It is in good form unless the place is none of the ten, or the register has no pattern there, or the line has more than 160 symbols.
-- In another form it answers the refusal that is due.
abbrev pub LongestRight : {S : Type 0} → (ℕ → S → Bool) → Register → ℕ → List S → Result (ℕ × ℕ) Refusal → Type 0
LongestRight meaning register place line result = LongestBy meaning (asked_in register place (length line)) line result

-- In good form a marking marks the line by the pattern that the register has at the place, and is not turned down. It is in good form
-- unless the place is none of the ten, or the register has no pattern there, or the line has more than 160 symbols, or the buffer is
-- shorter than the line. In another form it answers the refusal that is due, and the buffer is as it was.
abbrev pub MarkingRight : {S : Type 0} → (ℕ → S → Bool) → Register → ℕ → List S → List ℕ → List ℕ → Result ℕ Refusal → Type 0
MarkingRight meaning register place line before after result =
    MarksBy meaning (with_room (asked_in register place (length line)) (length line) (length before)) line before after result

-- In good form a splitting answers by the pattern that the register has at the place: it gives the best trail of the stretch under the
-- ranking and the parts along this trail, or says that the stretch has no trail. It is in good form unless the place is none of the ten,
-- or the register has no pattern there, or the line has more than 160 symbols, or the ends are not those of a stretch of it, or a buffer
-- is too short. In another form it answers the refusal that is due, and buffer and entries are as they were.
abbrev pub SplittingRight : {S M : Type 0} → M → (M → ℕ → M) → (M → M → Ordering) → (ℕ → S → Bool) → Register → ℕ → List S → ℕ → ℕ → ℕ → List ℕ → List ℕ → List (Option Part) → List (Option Part) → Result (Unit {0}) Refusal → Type 0
SplittingRight start stepped compared meaning register place line left right work_room before after was is result =
    SplitBy start stepped compared meaning (for_split (asked_in register place (length line)) (length line) left right (length before) work_room) line left right before after was is result

module _ {N S : Type 0} (meaning : N → ℕ → S → Bool) (reading : N → Reading) where
  -- The shelf is as these acts leave one, from its making with the notation on: it means and reads what the notation does, has ten
  -- places, and holds at each what the register of the acts has there.
  pub record AsLeftBy (notation : N) (acts : List (Act S)) (shelf : Shelf N S) : Type 0 where
    pub means : meaning shelf.notation ≡ meaning notation
    pub reads : SameReading (reading shelf.notation) (reading notation)
    pub ten : length shelf.places ≡ 10
    pub holds : (place : ℕ) → held_at shelf.places place ≡ register_of (reading notation) acts place

  -- whatever history leaves a shelf as this one is when the call begins: what is answered is right by its register, and this history
  -- with the call leaves a shelf as this one is now
  abbrev pub InEveryHistory : Shelf N S → Shelf N S → Act S → (N → Register → Type 0) → Type 0
  InEveryHistory was is act Right =
      (notation : N) (acts : List (Act S)) → AsLeftBy notation acts was → Right notation (register_of (reading notation) acts) × AsLeftBy notation (act ∷ acts) is
