-- What is right by rankings is right by others that rank alike.
use Rattle.std.proofs.Common.{ℕ, Bool, List, [], ◌∷◌, length, take, Ok, Err, Result}
use Rattle.std.specs.declared.cmp.Ordering.{Ordering}
use Rattle.pattern.specs.Tokens.{Reading}
use Rattle.ranking.specs.Ranks.{RankAlike}
use Rattle.shelf.specs.declared.Shelf.{Shelf}
use Rattle.shelf.specs.declared.refusal.Refusal.{Refusal}
use Rattle.shelf.specs.Histories.{Act, register_of}
use Rattle.shelf.specs.Places.{Register}
use Rattle.shelf.specs.Reports.{asked_in}
use Rattle.shelf.specs.Splits.{for_split}
use Rattle.shelf.proofs.Likeness.{split_alike}
use Rattle.histories.specs.declared.Answer.{Answer}
use Rattle.histories.specs.declared.Call.{Call}
use Rattle.histories.specs.declared.Call.TheVariants.{File, Withdraw, Longest, Mark, Split}
use Rattle.histories.specs.Runs.{act, Right, AllRight, RunRight}

module _ {S R M : Type 0} {Measure Measure' : R → Type 0}
    (start : (r : R) → Measure r) (stepped : (r : R) → Measure r → ℕ → Measure r) (compared : (r : R) → Measure r → Measure r → Ordering)
    (start' : (r : R) → Measure' r) (stepped' : (r : R) → Measure' r → ℕ → Measure' r) (compared' : (r : R) → Measure' r → Measure' r → Ordering)
    (alike : (r : R) → RankAlike (start r) (stepped r) (compared r) (start' r) (stepped' r) (compared' r)) where
  right_alike : (meaning : ℕ → S → Bool) (reading : Reading) (register : Register) (call after : Call S R M) (answer : Answer)
      → Right start stepped compared meaning reading register call after answer → Right start' stepped' compared' meaning reading register call after answer
  right_alike meaning reading register (File place bytes) after answer h = h
  right_alike meaning reading register (Withdraw place) after answer h = h
  right_alike meaning reading register (Longest place line) after answer h = h
  right_alike meaning reading register (Mark call) after answer h = h
  right_alike meaning reading register (Split call) after answer h =
      let r = call.ranking.now in
      let s = h.4 in
      let asked = for_split (asked_in register call.place (length call.line.now)) (length call.line.now) call.left call.right (length call.trail.now) (length call.work.now) in
      let split = split_alike (start r) (stepped r) (compared r) (start' r) (stepped' r) (compared' r) (alike r) meaning asked call.line.now call.left call.right call.trail.now s.0 call.sheet.now.entries s.1.entries h.0 s.5 in
      (h.0, h.1, h.2, h.3, (s.0, s.1, s.2, s.3, s.4, split))

  all_alike : (meaning : ℕ → S → Bool) (reading : Reading) (acts : List (Act S)) (calls afters : List (Call S R M)) (answers : List Answer)
      → AllRight start stepped compared meaning reading acts calls afters answers → AllRight start' stepped' compared' meaning reading acts calls afters answers
  all_alike meaning reading acts [] [] [] all = tt
  all_alike meaning reading acts [] [] (a ∷ answers) all = absurd all
  all_alike meaning reading acts [] (c' ∷ afters) answers all = absurd all
  all_alike meaning reading acts (c ∷ calls) [] answers all = absurd all
  all_alike meaning reading acts (c ∷ calls) (c' ∷ afters) [] all = absurd all
  all_alike meaning reading acts (c ∷ calls) (c' ∷ afters) (a ∷ answers) all =
      (right_alike meaning reading (register_of reading acts) c c' a all.0, all_alike meaning reading (act c ∷ acts) calls afters answers all.1)

  pub run_alike : {N : Type 0} (meaning : N → ℕ → S → Bool) (reading : N → Reading) (notation : N) (calls after : List (Call S R M)) (before answers : List Answer) (shelf : Shelf N S) (result : Result (Unit {0}) Refusal)
      → RunRight start stepped compared meaning reading notation calls after before answers shelf result → RunRight start' stepped' compared' meaning reading notation calls after before answers shelf result
  run_alike meaning reading notation calls after before answers shelf (Ok done) h = (all_alike (meaning notation) (reading notation) [] calls after (take (length calls) answers) h.0, h.1, h.2)
  run_alike meaning reading notation calls after before answers shelf (Err refusal) h = h
