-- A buffer of marks and a sheet, as runs and parts come.
use Rattle.std.proofs.Common.{◌≡◌, ℕ, zero, suc, ◌+◌, ◌-◌, ◌<◌, ◌≤◌, Bool, true, false, cond, ◌&&◌, leb, List, [], ◌∷◌, ◌++◌, length, get_or, take, drop, replicate, Some, Ok, Err, Option, Result, sym, refl, ap, ◌∙◌, subst, arith, take-append-drop}
use Rattle.std.proofs.lemmas.List.{take_at, take-append-le, drop-append-le, length-take-le}
use Rattle.std.proofs.lemmas.Bool.{leb-true, and_parts}
use Rattle.std.proofs.lemmas.Grind.{common_steps}
use Rattle.sheet.specs.declared.Part.{Part}
use Rattle.cue.specs.declared.cursor.Cue.{Cue}
use Rattle.cue.specs.declared.cursor.Cue.TheVariants.{Run, TagPart}
use Rattle.cue.specs.declared.cursor.Cursor.{Cursor}
use Rattle.cue.specs.declared.reading.Content.{Content}
use Rattle.cue.specs.declared.refusal.Fault.{Fault}
use Rattle.cue.specs.declared.refusal.Fault.TheVariants.{BrokenRule}
use Rattle.cue.specs.Marks.{least_gap}
use Rattle.cue.specs.Cues.{Cues, next, good, bad, first_number, in_limits, number_within, after, parts_to_come, runs_to_come, cues_of}
use Rattle.cue.specs.Cursors.{Yields, cues_left}
use Rattle.cue.specs.Answers.{with_run, filled}
use Rattle.cue.specs.Contents.{Fits, AllFit, fitting, ended, faulty, With}
use Rattle.cue.proofs.Numbers.{AllBytes, ok_is, err_not_ok}

pub all_bytes : (bytes : List ℕ) → ((i : ℕ) → get_or bytes i 0 < 256) → AllBytes bytes
all_bytes [] h = tt
all_bytes (b ∷ bytes) h = (h 0, all_bytes bytes (λ i. h (suc i)))

pub run_length : (left right : ℕ) (ms : List ℕ) → left ≤ right → right ≤ length ms → length (with_run left right ms) ≡ length ms
run_length left right ms h l =
    grind (arith, common_steps)

-- and in a longer list
pub run_in_front : (left right n : ℕ) (ms : List ℕ) → left ≤ right → right ≤ n → n ≤ length ms → take n (with_run left right ms) ≡ with_run left right (take n ms)
run_in_front left right n ms h l m =
    let p = take n ms in
    let q = drop n ms in
    let long : length p ≡ n = length-take-le n ms m in
    let ones : List ℕ = replicate (right - left) 1 in
    let whole : with_run left right (p ++ q) ≡ with_run left right p ++ q =
    grind (arith, common_steps, take-append-le left p q (omega (arith, h, l, long)), drop-append-le right p q (omega (arith, l, long))) in
    let size : length (with_run left right p) ≡ n = run_length left right p h (omega (arith, l, long)) ∙ long in
    ap (λ t. take n (with_run left right t)) (sym (take-append-drop n ms)) ∙ ap (take n) whole ∙ take_at (with_run left right p) q n size

-- every run that comes lies within the line
module _ (n : ℕ) where
  fit_after : (x : Result (ℕ × ℕ × List ℕ) Fault) (go_on : ℕ → ℕ → List ℕ → Cues) → ((v behind : ℕ) (rest : List ℕ) → x ≡ Ok (v, behind, rest) → AllFit n (go_on v behind rest)) → AllFit n (after x go_on)
  fit_after (Ok y) go_on f = f y.0 y.1 y.2 refl
  fit_after (Err g) go_on f = faulty

  limits : (least most at : ℕ) (x : Result (ℕ × ℕ × List ℕ) Fault) (y : ℕ × ℕ × List ℕ) → in_limits least most at x ≡ Ok y → (least ≤ y.0) × (y.0 ≤ most)
  limits least most at (Err f) y e = absurd (err_not_ok e)
  limits least most at (Ok x) y e = by (leb least x.0 && leb x.0 most) refl e
    where
      by : (t : Bool) → (leb least x.0 && leb x.0 most) ≡ t → cond t (Ok x) (Err (BrokenRule at)) ≡ Ok y → (least ≤ y.0) × (y.0 ≤ most)
      by false t e = absurd (err_not_ok e)
      by true t e =
          let p = and_parts (leb least x.0) (leb x.0 most) t in
          subst (λ z. (least ≤ z.0) × (z.0 ≤ most)) (ok_is e) (leb-true least x.0 p.0, leb-true x.0 most p.1)

  all_parts : (parts least at : ℕ) (bytes : List ℕ) → AllFit n (parts_to_come n parts least at bytes)
  all_parts zero least at [] = ended
  all_parts zero least at (b ∷ bytes) = faulty
  all_parts (suc more) least at bytes =
      fit_after (number_within least 8 at bytes) _ (λ tag o r e. fit_after (number_within 0 n o r) _ (λ start o r e. fit_after (number_within 1 (n - start) o r) _ (λ len o r e.
      fitting tt (all_parts more (tag + 1) o r))))

  all_runs : (runs from at : ℕ) (bytes : List ℕ) → AllFit n (runs_to_come n runs from at bytes)
  all_runs zero from at bytes = fit_after (first_number at bytes) _ (λ parts o r e. all_parts parts 1 o r)
  all_runs (suc more) from at bytes =
      fit_after (number_within (least_gap from) (n - from) at bytes) _ (λ gap o r e. fit_after (number_within 1 (n - (from + gap)) o r) _ (λ len p s f.
      let l = limits 1 (n - (from + gap)) o (first_number o r) _ f in
      fitting (omega arith, omega (arith, l.0, l.1)) (all_runs more (from + gap + len) p s)))

  pub all_fit : (bytes : List ℕ) → AllFit n (cues_of n bytes)
  all_fit bytes = fit_after (first_number 0 bytes) _ (λ runs o r e. all_runs runs 0 o r)

pub first_fits : (n : ℕ) (cue : Cue) (rest : Cues) → AllFit n (next cue rest) → Fits n cue × AllFit n rest
first_fits n cue rest (fitting f more) = (f, more)

-- what was handed out was the first of what was to come
pub handed_out : (k : Cues) (is : Cursor) (r : Result (Option Cue) Fault) (cue : Cue) → r ≡ Ok (Some cue) → Yields k is r → k ≡ next cue (cues_left is)
handed_out (next c rest) is r cue e y = let a = y.0 in let b = y.1 in cc
handed_out good is r cue e y = let a = y.0 in cc
handed_out (bad f) is r cue e y = let a : r ≡ Err f = y in cc

pub added : (n : ℕ) (cue : Cue) (rest : Cues) (was is : Content) (z : Result (List ℕ × List (Option Part)) Fault) → n ≤ length was.marks → Fits n cue → With cue was is
    → filled (next cue rest) (take n was.marks) was.sheet.entries ≡ z → filled rest (take n is.marks) is.sheet.entries ≡ z
added n (Run run) rest was is z long fit w e =
    ap (λ ms. filled rest (take n ms) is.sheet.entries) w.0 ∙ ap (λ ms. filled rest ms is.sheet.entries) (run_in_front run.left run.right n was.marks fit.0 fit.1 long)
    ∙ ap (λ s. filled rest (with_run run.left run.right (take n was.marks)) s.entries) w.1 ∙ e
added n (TagPart part) rest was is z long fit w e =
    ap (λ ms. filled rest (take n ms) is.sheet.entries) w.0 ∙ ap (filled rest (take n was.marks)) w.1 ∙ e

pub as_long : (n : ℕ) (cue : Cue) (was is : Content) → n ≤ length was.marks → Fits n cue → With cue was is → length is.marks ≡ length was.marks
as_long n (Run run) was is long fit w = ap length w.0 ∙ run_length run.left run.right was.marks fit.0 (omega (arith, fit.1, long))
as_long n (TagPart part) was is long fit w = ap length w.0

pub fits_more : (n m : ℕ) (cue : Cue) → n ≤ m → Fits n cue → Fits m cue
fits_more n m (Run run) h fit = (fit.0, omega (arith, h, fit.1))
fits_more n m (TagPart part) h fit = tt
