-- A run as far as some call, and one call more.
use Rattle.std.proofs.Common.{◌≡◌, ℕ, ◌+◌, ◌<◌, Bool, List, [], ◌∷◌, ◌++◌, length, take, drop, get_or, slice_set, sym, refl, ap, ◌∙◌, subst, arith, drop-drop, get_or-drop}
use Rattle.std.proofs.lemmas.List.{take_more, take_more_set, drop-set-lt}
use Rattle.std.specs.declared.cmp.Ordering.{Ordering}
use Rattle.pattern.specs.Tokens.{Reading}
use Rattle.shelf.specs.declared.Shelf.{Shelf}
use Rattle.shelf.specs.Histories.{Act, register_of, AsLeftBy, InEveryHistory}
use Rattle.histories.specs.declared.Call.{Call}
use Rattle.histories.specs.declared.Answer.{Answer}
use Rattle.histories.specs.Runs.{act, acts_after, Right, AllRight}

acts_more : {S R M : Type 0} (acts : List (Act S)) (calls : List (Call S R M)) (call : Call S R M) → acts_after acts (calls ++ (call ∷ [])) ≡ act call ∷ acts_after acts calls
acts_more acts [] call = refl
acts_more acts (c ∷ calls) call = acts_more (act c ∷ acts) calls call

module _ {S R M : Type 0} (start : R → M) (stepped : R → M → ℕ → M) (compared : R → M → M → Ordering) where
  -- one call more is right
  all_more : (meaning : ℕ → S → Bool) (reading : Reading) (acts : List (Act S)) (calls afters : List (Call S R M)) (answers : List Answer) (call after : Call S R M) (answer : Answer)
      → AllRight start stepped compared meaning reading acts calls afters answers → Right start stepped compared meaning reading (register_of reading (acts_after acts calls)) call after answer
      → AllRight start stepped compared meaning reading acts (calls ++ (call ∷ [])) (afters ++ (after ∷ [])) (answers ++ (answer ∷ []))
  all_more meaning reading acts [] [] [] call after answer all right = (right, tt)
  all_more meaning reading acts [] [] (a ∷ answers) call after answer all right = absurd all
  all_more meaning reading acts [] (c' ∷ afters) answers call after answer all right = absurd all
  all_more meaning reading acts (c ∷ calls) [] answers call after answer all right = absurd all
  all_more meaning reading acts (c ∷ calls) (c' ∷ afters) [] call after answer all right = absurd all
  all_more meaning reading acts (c ∷ calls) (c' ∷ afters) (a ∷ answers) call after answer all right = (all.0, all_more meaning reading (act c ∷ acts) calls afters answers call after answer all.1 right)

module _ {N S R M : Type 0} (start : R → M) (stepped : R → M → ℕ → M) (compared : R → M → M → Ordering) (meaning : N → ℕ → S → Bool) (reading : N → Reading) (notation : N) where
  -- the first i calls are answered rightly, and the others and their answers are as they were
  pub record AsFar (calls : List (Call S R M)) (before : List Answer) (i : ℕ) (afters : List (Call S R M)) (answers : List Answer) (shelf : Shelf N S) : Type 0 where
    pub behind : AllRight start stepped compared (meaning notation) (reading notation) [] (take i calls) (take i afters) (take i answers)
    pub ahead : drop i afters ≡ drop i calls
    pub rest : drop i answers ≡ drop i before
    pub led : AsLeftBy meaning reading notation (acts_after [] (take i calls)) shelf

  pub begun : (calls : List (Call S R M)) (before : List Answer) (shelf : Shelf N S) → AsLeftBy meaning reading notation [] shelf → AsFar calls before 0 calls before shelf
  begun calls before shelf led = record { behind = tt; ahead = refl; rest = refl; led = led }

  one_drop : {A : Type 0} (i : ℕ) (xs ys : List A) (x : A) → drop i xs ≡ drop i ys → drop (i + 1) (slice_set xs i x) ≡ drop (i + 1) ys
  one_drop i xs ys x same = drop-set-lt (i + 1) xs i x (omega arith) ∙ sym (drop-drop 1 i xs) ∙ ap (drop 1) same ∙ drop-drop 1 i ys

  pub one_more : (calls : List (Call S R M)) (before : List Answer) (i : ℕ) (afters : List (Call S R M)) (answers : List Answer) (was is : Shelf N S) (d after : Call S R M) (answer : Answer)
      → i < length calls → length afters ≡ length calls → i < length answers
      → AsFar calls before i afters answers was
      → InEveryHistory meaning reading was is (act (get_or afters i d)) (λ n register. Right start stepped compared (meaning n) (reading n) register (get_or afters i d) after answer)
      → AsFar calls before (i + 1) (slice_set afters i after) (slice_set answers i answer) is
  one_more calls before i afters answers was is d after answer within long room far step =
      let call = get_or calls i d in
      let acts = acts_after [] (take i calls) in
      let here : get_or afters i d ≡ call =
      ap (λ k. get_or afters k d) (let e : i ≡ i + 0 = omega arith in e) ∙ sym (get_or-drop i afters 0 d) ∙ ap (λ xs. get_or xs 0 d) far.ahead ∙ get_or-drop i calls 0 d ∙ ap (λ k. get_or calls k d) (let e : i + 0 ≡ i = omega arith in e) in
      let taken : take (i + 1) calls ≡ take i calls ++ (call ∷ []) = take_more calls i d within in
      let taken_after : take (i + 1) (slice_set afters i after) ≡ take i afters ++ (after ∷ []) = take_more_set afters i after (subst (λ n. i < n) (sym long) within) in
      let taken_answers : take (i + 1) (slice_set answers i answer) ≡ take i answers ++ (answer ∷ []) = take_more_set answers i answer room in
      let done = subst (λ c. InEveryHistory meaning reading was is (act c) (λ n register. Right start stepped compared (meaning n) (reading n) register c after answer)) here step notation acts far.led in
      let all = all_more start stepped compared (meaning notation) (reading notation) [] (take i calls) (take i afters) (take i answers) call after answer far.behind done.0 in
      record {
        behind = rw (taken, taken_after, taken_answers) all;
        ahead = one_drop i afters calls after far.ahead;
        rest = one_drop i answers before answer far.rest;
        led = subst (λ l. AsLeftBy meaning reading notation l is) (sym (ap (acts_after []) taken ∙ acts_more [] (take i calls) call)) done.1;
      }
