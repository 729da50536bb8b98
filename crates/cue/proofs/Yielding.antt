-- What comes of a run or a part, by the numbers that are taken for it.
use Rattle.std.proofs.Common.{◌≡◌, ℕ, suc, ◌+◌, ◌-◌, ◌<◌, List, length, drop, Some, Ok, Err, Option, Result, sym, refl, ap, ◌∙◌, subst, arith}
use Rattle.std.specs.Result.{IsErrAnd}
use Rattle.std.proofs.lemmas.List.{at_drop_more}
use Rattle.cue.specs.declared.cursor.Cue.{Cue}
use Rattle.cue.specs.declared.cursor.Cursor.{Cursor}
use Rattle.cue.specs.declared.refusal.Fault.{Fault}
use Rattle.cue.specs.declared.refusal.Fault.TheVariants.{BrokenRule}
use Rattle.cue.specs.Marks.{least_gap}
use Rattle.cue.specs.Cues.{Cues, next, bad, number_within, after, run, tag_part, runs_to_come, parts_to_come}
use Rattle.cue.specs.Cursors.{left, Took, Yields, cues_left}

pub yields_bad : (k : Cues) (f : Fault) (is : Cursor) (r : Result (Option Cue) Fault) → k ≡ bad f → r ≡ Err f → Yields k is r
yields_bad k f is r e h = subst (λ k. Yields k is r) (sym e) h

-- at the exit of a `?`
pub yields_fault : (k : Cues) (f : Fault) (is : Cursor) (r : Result (Option Cue) Fault) → IsErrAnd r (λ g. g ≡ f) → k ≡ bad f → Yields k is r
yields_fault k f is (Ok x) h e = absurd h
yields_fault k f is (Err g) h e = yields_bad k f is (Err g) e (ap Err h)

pub yields_next : (k rest : Cues) (cue : Cue) (is : Cursor) → k ≡ next cue rest → cues_left is ≡ rest → Yields k is (Ok (Some cue))
yields_next k rest cue is e h = subst (λ k. Yields k is (Ok (Some cue))) (sym e) (refl, h)

module _ (was is : Cursor) (go_on : ℕ → ℕ → List ℕ → Cues) where
  pub took_bad : (x : Result (ℕ × ℕ × List ℕ) Fault) (f : Fault) → Took x was is (Err f) → after x go_on ≡ bad f
  took_bad (Ok y) f t = let h = t.0 in cc
  took_bad (Err g) f t = let h : Err f ≡ Err g = t in cc

  pub took_ok : (x : Result (ℕ × ℕ × List ℕ) Fault) (v : ℕ) → Took x was is (Ok v) → after x go_on ≡ go_on v is.offset (left is)
  took_ok (Ok y) v t = let a = t.0 in let b = t.1 in let d = t.2 in cc
  took_ok (Err g) v t = let h : Ok v ≡ Err g = t in cc

pub same_symbols : (was is : Cursor) (x : Result (ℕ × ℕ × List ℕ) Fault) (v : ℕ) → Took x was is (Ok v) → is.symbols ≡ was.symbols
same_symbols was is (Ok y) v t = t.3
same_symbols was is (Err g) v t = let h : Ok v ≡ Err g = t in cc

pub surplus : (symbols parts least at : ℕ) (bytes : List ℕ) → parts ≡ 0 → at < length bytes → parts_to_come symbols parts least at (drop at bytes) ≡ bad (BrokenRule at)
surplus symbols parts least at bytes e h = ap (λ k. parts_to_come symbols k least at (drop at bytes)) e ∙ at_drop_more (parts_to_come symbols 0 least at) bytes at 0 h

-- a part, by the cursor before it and behind each of its numbers
module _ (c : Cursor) (parts least : ℕ) (some : 0 < parts) where
  abbrev pub of_parts : ℕ → Cues
  of_parts k = parts_to_come c.symbols k least c.offset (left c)

  one_of : of_parts parts ≡ of_parts (suc (parts - 1))
  one_of = let e : parts ≡ suc (parts - 1) = omega (arith, some) in ap of_parts e

  pub bad_tag : (d : Cursor) (f : Fault) → Took (number_within least 8 c.offset (left c)) c d (Err f) → of_parts parts ≡ bad f
  bad_tag d f t = one_of ∙ took_bad c d _ _ f t

  module _ (d : Cursor) (tag : ℕ) (tagged : Took (number_within least 8 c.offset (left c)) c d (Ok tag)) where
    after_tag : of_parts parts ≡ after (number_within 0 d.symbols d.offset (left d)) (λ start behind_start bytes_left.
        after (number_within 1 (c.symbols - start) behind_start bytes_left) (λ len behind bytes_left.
        next (tag_part c.offset tag start (start + len)) (parts_to_come c.symbols (parts - 1) (tag + 1) behind bytes_left)))
    after_tag = one_of ∙ took_ok c d _ _ tag tagged ∙ rw (same_symbols c d _ tag tagged) refl

    pub bad_start : (e : Cursor) (f : Fault) → Took (number_within 0 d.symbols d.offset (left d)) d e (Err f) → of_parts parts ≡ bad f
    bad_start e f t = after_tag ∙ took_bad d e _ _ f t

    module _ (e : Cursor) (start : ℕ) (started : Took (number_within 0 d.symbols d.offset (left d)) d e (Ok start)) where
      after_start : of_parts parts ≡ after (number_within 1 (e.symbols - start) e.offset (left e)) (λ len behind bytes_left.
          next (tag_part c.offset tag start (start + len)) (parts_to_come c.symbols (parts - 1) (tag + 1) behind bytes_left))
      after_start = after_tag ∙ took_ok d e _ _ start started ∙ rw (same_symbols d e _ start started, same_symbols c d _ tag tagged) refl

      pub bad_length : (g : Cursor) (f : Fault) → Took (number_within 1 (e.symbols - start) e.offset (left e)) e g (Err f) → of_parts parts ≡ bad f
      bad_length g f t = after_start ∙ took_bad e g _ _ f t

      module _ (g : Cursor) (len : ℕ) (measured : Took (number_within 1 (e.symbols - start) e.offset (left e)) e g (Ok len)) where
        pub a_part : of_parts parts ≡ next (tag_part c.offset tag start (start + len)) (parts_to_come g.symbols (parts - 1) (tag + 1) g.offset (left g))
        a_part = after_start ∙ took_ok e g _ _ len measured ∙ rw (same_symbols e g _ len measured, same_symbols d e _ start started, same_symbols c d _ tag tagged) refl

-- a run, likewise
module _ (c : Cursor) (runs end : ℕ) (some : 0 < runs) (least most : ℕ) (at_least_lem : least ≡ least_gap end) (at_most : most ≡ c.symbols - end) where
  abbrev pub of_runs : ℕ → Cues
  of_runs k = runs_to_come c.symbols k end c.offset (left c)

  one_run : of_runs runs ≡ after (number_within least most c.offset (left c)) (λ gap behind_gap bytes_left.
      after (number_within 1 (c.symbols - (end + gap)) behind_gap bytes_left) (λ len behind bytes_left.
      next (run c.offset (end + gap) (end + gap + len)) (runs_to_come c.symbols (runs - 1) (end + gap + len) behind bytes_left)))
  one_run = let e : runs ≡ suc (runs - 1) = omega (arith, some) in ap of_runs e ∙ rw (at_least_lem, at_most) refl

  pub bad_gap : (d : Cursor) (f : Fault) → Took (number_within least most c.offset (left c)) c d (Err f) → of_runs runs ≡ bad f
  bad_gap d f t = one_run ∙ took_bad c d _ _ f t

  module _ (d : Cursor) (gap : ℕ) (gapped : Took (number_within least most c.offset (left c)) c d (Ok gap)) (room : ℕ) (room_is : room ≡ d.symbols - (end + gap)) where
    after_gap : of_runs runs ≡ after (number_within 1 room d.offset (left d)) (λ len behind bytes_left.
        next (run c.offset (end + gap) (end + gap + len)) (runs_to_come c.symbols (runs - 1) (end + gap + len) behind bytes_left))
    after_gap = one_run ∙ took_ok c d _ _ gap gapped ∙ rw (room_is, same_symbols c d _ gap gapped) refl

    pub bad_run : (e : Cursor) (f : Fault) → Took (number_within 1 room d.offset (left d)) d e (Err f) → of_runs runs ≡ bad f
    bad_run e f t = after_gap ∙ took_bad d e _ _ f t

    pub a_run : (e : Cursor) (len : ℕ) → Took (number_within 1 room d.offset (left d)) d e (Ok len)
        → of_runs runs ≡ next (run c.offset (end + gap) (end + gap + len)) (runs_to_come e.symbols (runs - 1) (end + gap + len) e.offset (left e))
    a_run e len t = after_gap ∙ took_ok d e _ _ len t ∙ rw (same_symbols d e _ len t, same_symbols c d _ gap gapped) refl
