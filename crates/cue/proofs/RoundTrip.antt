-- What is written is read back as it was, and what is read gives the same bytes when it is written.
use Rattle.std.proofs.Common.{◌≡◌, ℕ, zero, suc, ◌+◌, ◌-◌, ◌<◌, ◌≤◌, true, ltb, leb, List, [], ◌∷◌, ◌++◌, length, take, drop, get_or, replicate, Some, None, Ok, Err, Option, Result, sym, refl, ap, ◌∙◌, subst, append_assoc, arith, length-append}
use Rattle.std.proofs.lemmas.List.{length-replicate, replicate-append-replicate}
use Rattle.std.proofs.lemmas.Bool.{ltb-true, leb-true, and_parts, and_from}
use Rattle.std.proofs.lemmas.Grind.{common_steps}
use Rattle.sheet.specs.declared.Part.{Part}
use Rattle.sheet.specs.Entries.{with_entry}
use Rattle.cue.specs.declared.refusal.Fault.{Fault}
use Rattle.cue.specs.Leb128.{leb128}
use Rattle.cue.specs.Marks.{marks, runs_of, least_gap, LongestRuns, laid}
use Rattle.cue.specs.Records.{run_bytes, parts_from, part_bytes, record_of, fits, all_fit}
use Rattle.cue.specs.Cues.{Cues, after, parts_to_come, runs_to_come}
use Rattle.cue.specs.Answers.{with_run, filled, content_of, Fitting, IsRecord, RoundTrip}
use Rattle.cue.proofs.Laying.{laid_whole, longest_runs, runs_again, marks_laid, few_runs, within_line, laid_length}
use Rattle.cue.proofs.Numbers.{AllBytes, number_read, number_read_within, number_written, number_written_within, ok_is, err_not_ok}
use Rattle.cue.proofs.Filling.{all_bytes}
use Rattle.cue.proofs.Entries.{with_entry_lem, no_parts, none_fits, fits_past, few_parts, longer, entered, listed, part_fits}

-- a run on a line that is not marked from the end of the run before on
pub with_run_lem : (xs : List ℕ) (n end gap len : ℕ) → length xs ≡ end → end + gap + len ≤ n
    → with_run (end + gap) (end + gap + len) (xs ++ replicate (n - end) 0) ≡ (xs ++ (replicate gap 0 ++ replicate len 1)) ++ replicate (n - (end + gap + len)) 0
with_run_lem xs n end gap len e h =
    let rest = n - (end + gap + len) in
    let all : gap + len + rest ≡ n - end = omega (arith, h) in
    let parts : replicate {A = ℕ} (n - end) 0 ≡ (replicate gap 0 ++ replicate len 0) ++ replicate rest 0 =
    grind (arith, common_steps, all, replicate-append-replicate {A = ℕ} (gap + len) rest 0, replicate-append-replicate {A = ℕ} gap len 0) in
    let front : xs ++ replicate (n - end) 0 ≡ (xs ++ replicate gap 0) ++ (replicate len 0 ++ replicate rest 0) = grind (arith, common_steps, parts) in
    let back : xs ++ replicate (n - end) 0 ≡ (xs ++ (replicate gap 0 ++ replicate len 0)) ++ replicate rest 0 = grind (arith, common_steps, parts) in
    let before : take (end + gap) (xs ++ replicate (n - end) 0) ≡ xs ++ replicate gap 0 = grind (arith, common_steps, front, e) in
    let behind : drop (end + gap + len) (xs ++ replicate (n - end) 0) ≡ replicate rest 0 = grind (arith, common_steps, back, e) in
    let long : end + gap + len - (end + gap) ≡ len = omega arith in
    rw (before, behind, long) (grind (arith, common_steps))

-- a number that is there, and what comes behind it
go_on_from : (x : Result (ℕ × ℕ × List ℕ) Fault) (y : ℕ × ℕ × List ℕ) (go_on : ℕ → ℕ → List ℕ → Cues) (ms : List ℕ) (es : List (Option Part)) (z : Result (List ℕ × List (Option Part)) Fault)
    → x ≡ Ok y → filled (go_on y.0 y.1 y.2) ms es ≡ z → filled (after x go_on) ms es ≡ z
go_on_from x y go_on ms es z e f = ap (λ r. filled (after r go_on) ms es) e ∙ f

-- and the other way round
record WentOn (x : Result (ℕ × ℕ × List ℕ) Fault) (go_on : ℕ → ℕ → List ℕ → Cues) (ms : List ℕ) (es : List (Option Part)) (z : List ℕ × List (Option Part)) : Type 0 where
  there : ℕ × ℕ × List ℕ
  is : x ≡ Ok there
  then : filled (go_on there.0 there.1 there.2) ms es ≡ Ok z

went_on : (x : Result (ℕ × ℕ × List ℕ) Fault) (go_on : ℕ → ℕ → List ℕ → Cues) (ms : List ℕ) (es : List (Option Part)) (z : List ℕ × List (Option Part))
    → filled (after x go_on) ms es ≡ Ok z → WentOn x go_on ms es z
went_on (Ok y) go_on ms es z e = record { there = y; is = refl; then = e }
went_on (Err f) go_on ms es z e = absurd (err_not_ok e)

part_is : (p : Part) → p.left ≤ p.right → record { left = p.left; right = p.left + (p.right - p.left) } ≡ p
part_is p h = let e : p.left + (p.right - p.left) ≡ p.right = omega (arith, h) in ap (λ r. record { left = p.left; right = r }) e

one_more : {X : Type 0} (ys : List X) (y : X) (n : ℕ) → n ≡ length ys + 1 → n + 1 ≡ length (ys ++ (y ∷ [])) + 1
one_more ys y n e = omega (arith, e, length-append ys (y ∷ []))

module _ (n : ℕ) (short : n ≤ 160) where
  parts_read : (entries ys : List (Option Part)) (ms : List ℕ) (tag least at : ℕ) → tag ≡ length ys + 1 → tag + length entries ≡ 9 → least ≤ tag → all_fit n entries ≡ true
      → filled (parts_to_come n (length (parts_from tag entries)) least at (part_bytes (parts_from tag entries))) ms (ys ++ replicate (length entries) None) ≡ Ok (ms, ys ++ entries)
  parts_read [] ys ms tag least at e k l f = refl
  parts_read (None ∷ es) ys ms tag least at e k l f =
      ap (filled (parts_to_come n (length (parts_from (tag + 1) es)) least at (part_bytes (parts_from (tag + 1) es))) ms) (sym (append_assoc ys (None ∷ []) (replicate (length es) None)))
      ∙ parts_read es (ys ++ (None ∷ [])) ms (tag + 1) least at (one_more ys None tag e) (omega (arith, k)) (omega (arith, l)) f
      ∙ ap (λ x. Ok (ms, x)) (append_assoc ys (None ∷ []) es)
  parts_read (Some p ∷ es) ys ms tag least at e k l f =
      let q = and_parts (fits n p) (all_fit n es) f in
      let fit = and_parts (ltb p.left p.right) (leb p.right n) q.0 in
      let some = ltb-true p.left p.right fit.0 in
      let within = leb-true p.right n fit.1 in
      let rest = part_bytes (parts_from (tag + 1) es) in
      let a = number_read_within least 8 at tag (leb128 p.left ++ (leb128 (p.right - p.left) ++ rest)) (omega (arith, k)) l (omega (arith, k)) in
      let b = number_read_within 0 n a.0 p.left (leb128 (p.right - p.left) ++ rest) (omega (arith, some, within, short)) (omega arith) (omega (arith, some, within)) in
      let d = number_read_within 1 (n - p.left) b.0 (p.right - p.left) rest (omega (arith, within, short)) (omega (arith, some)) (omega (arith, within)) in
      go_on_from _ _ _ _ _ _ a.1 (go_on_from _ _ _ _ _ _ b.1 (go_on_from _ _ _ _ _ _ d.1
      (ap (filled (parts_to_come n (length (parts_from (tag + 1) es)) (tag + 1) d.0 rest) ms)
      (with_entry_lem ys (replicate (length es) None) None _ tag e (omega (arith, k)) ∙ ap (λ x. ys ++ (Some x ∷ replicate (length es) None)) (part_is p (omega (arith, some))) ∙ sym (append_assoc ys (Some p ∷ []) (replicate (length es) None)))
      ∙ parts_read es (ys ++ (Some p ∷ [])) ms (tag + 1) (tag + 1) d.0 (one_more ys (Some p) tag e) (omega (arith, k)) (omega arith) q.1
      ∙ ap (λ x. Ok (ms, x)) (append_assoc ys (Some p ∷ []) es))))

  runs_read : (rs : List (ℕ × ℕ)) (xs : List ℕ) (end at : ℕ) (tail : List ℕ) (es : List (Option Part)) → length xs ≡ end → LongestRuns n end rs
      → (behind : ℕ) × (filled (runs_to_come n (length rs) end at (run_bytes rs ++ tail)) (xs ++ replicate (n - end) 0) es ≡ filled (runs_to_come n 0 0 behind tail) (xs ++ laid (n - end) rs) es)
  runs_read [] xs end at tail es e l = (at, refl)
  runs_read ((gap, len) ∷ rs) xs end at tail es e l =
      let within = within_line n (end + gap + len) rs l.2 in
      let new : List ℕ = replicate gap 0 ++ replicate len 1 in
      let a = number_read_within (least_gap end) (n - end) at gap (leb128 len ++ (run_bytes rs ++ tail)) (omega (arith, within, short)) l.0 (omega (arith, within)) in
      let b = number_read_within 1 (n - (end + gap)) a.0 len (run_bytes rs ++ tail) (omega (arith, within, short)) l.1 (omega (arith, within)) in
      let longer : length (xs ++ new) ≡ end + gap + len = grind (arith, common_steps, e) in
      let more = runs_read rs (xs ++ new) (end + gap + len) b.0 tail es longer l.2 in
      let room : n - (end + gap + len) ≡ n - end - (gap + len) = omega arith in (
        more.0,
        ap (λ bytes. filled (runs_to_come n (suc (length rs)) end at bytes) (xs ++ replicate (n - end) 0) es)
            (append_assoc (leb128 gap) (leb128 len ++ run_bytes rs) tail ∙ ap (λ t. leb128 gap ++ t) (append_assoc (leb128 len) (run_bytes rs) tail))
            ∙ go_on_from _ _ _ _ _ _ a.1 (go_on_from _ _ _ _ _ _ b.1
            (ap (λ ms. filled (runs_to_come n (length rs) (end + gap + len) b.0 (run_bytes rs ++ tail)) ms es) (with_run_lem xs n end gap len e within) ∙ more.1))
            ∙ ap (λ ms. filled (runs_to_come n 0 0 more.0 tail) ms es)
            (append_assoc xs new (laid (n - (end + gap + len)) rs) ∙ ap (λ t. xs ++ t) (append_assoc (replicate gap 0) (replicate len 1) (laid (n - (end + gap + len)) rs) ∙ ap (λ i. replicate gap 0 ++ (replicate len 1 ++ laid i rs)) room)),
      )

pub written_is_read : (n : ℕ) (ms : List ℕ) (entries : List (Option Part)) → Fitting n ms entries → content_of n (record_of ms entries) ≡ Ok (marks ms, entries)
written_is_read n ms entries fit =
    let runs = runs_of ms in
    let parts = parts_from 1 entries in
    let tail = leb128 (length parts) ++ part_bytes parts in
    let long = fit.one_each in
    let few : length runs < 16384 = omega (arith, few_runs ms, long, fit.short) in
    let few_tags : length parts < 16384 = omega (arith, few_parts 1 entries, fit.eight) in
    let a = number_read 0 (length runs) (run_bytes runs ++ tail) few in
    let longest : LongestRuns n 0 runs = subst (λ k. LongestRuns k 0 runs) long (longest_runs ms) in
    let b = runs_read n fit.short runs [] 0 a.0 tail (replicate 8 None) refl longest in
    let d = number_read b.0 (length parts) (part_bytes parts) few_tags in
    let whole : laid (n - 0) runs ≡ marks ms = ap (λ k. laid k runs) (omega (arith, long)) ∙ laid_whole ms in
    let all : n ≡ n - 0 = omega arith in
    let eight : length entries ≡ 8 = fit.eight in
    go_on_from _ _ _ _ _ _ a.1
    (ap (λ k. filled (runs_to_come n (length runs) 0 a.0 (run_bytes runs ++ tail)) (replicate k 0) (replicate 8 None)) all
    ∙ b.1
    ∙ go_on_from _ _ _ _ _ _ d.1
    (ap (λ k. filled (parts_to_come n (length parts) 1 d.0 (part_bytes parts)) (laid (n - 0) runs) (replicate k None)) (sym eight)
    ∙ parts_read n fit.short entries [] (laid (n - 0) runs) 1 1 d.0 (omega arith) (omega (arith, eight)) (omega arith) fit.parts_fit
    ∙ ap (λ x. Ok (x, entries)) whole))

-- the parts that were read, as entries from a tag on
record PartsRead (n tag parts : ℕ) (bytes : List ℕ) (ys result : List (Option Part)) : Type 0 where
  entries : List (Option Part)
  is : result ≡ ys ++ entries
  many : tag + length entries ≡ 9
  fit : all_fit n entries ≡ true
  count : length (parts_from tag entries) ≡ parts
  same : bytes ≡ part_bytes (parts_from tag entries)

-- the runs that were read behind the end of the one before, and the parts
record RunsRead (n end runs : ℕ) (bytes xs ms : List ℕ) (entries : List (Option Part)) : Type 0 where
  rs : List (ℕ × ℕ)
  count : length rs ≡ runs
  longest : LongestRuns n end rs
  is : ms ≡ xs ++ laid (n - end) rs
  eight : length entries ≡ 8
  fit : all_fit n entries ≡ true
  same : bytes ≡ run_bytes rs ++ (leb128 (length (parts_from 1 entries)) ++ part_bytes (parts_from 1 entries))

-- one part more in front
part_written : (n tag new start len more : ℕ) (bytes rest : List ℕ) (ys result : List (Option Part)) → tag ≡ length ys + 1 → tag ≤ new → new ≤ 8 → 1 ≤ len → start + len ≤ n
    → bytes ≡ leb128 new ++ (leb128 start ++ (leb128 len ++ rest))
    → PartsRead n (new + 1) more rest ((ys ++ replicate (new - tag) None) ++ (Some (record { left = start; right = start + len }) ∷ [])) result → PartsRead n tag (suc more) bytes ys result
part_written n tag new start len more bytes rest ys result t from to some within e r =
    let part : Part = record { left = start; right = start + len } in
    let gone : List (Option Part) = replicate (new - tag) None in
    let size : start + len - start ≡ len = omega arith in
    let parts = listed ys tag new part t from to r.entries in
    record {
      entries = gone ++ (Some part ∷ r.entries);
      is = r.is ∙ append_assoc (ys ++ gone) (Some part ∷ []) r.entries ∙ append_assoc ys gone (Some part ∷ r.entries);
      many = grind (arith, common_steps, r.many, from);
      fit = fits_past n (new - tag) (Some part ∷ r.entries) ∙ and_from (fits n part) (all_fit n r.entries) (part_fits n start len some within) r.fit;
      count = ap length parts ∙ ap suc r.count;
      same = e ∙ ap (λ l. leb128 new ++ (leb128 start ++ (leb128 len ++ l))) r.same ∙ ap (λ i. leb128 new ++ (leb128 start ++ (leb128 i ++ part_bytes (parts_from (new + 1) r.entries)))) (sym size) ∙ ap part_bytes (sym parts);
    }

module _ (n : ℕ) where
  parts_written : (parts tag at : ℕ) (bytes : List ℕ) (ys : List (Option Part)) (ms : List ℕ) (z : List ℕ × List (Option Part)) → AllBytes bytes → tag ≡ length ys + 1 → tag ≤ 9
      → filled (parts_to_come n parts tag at bytes) ms (ys ++ replicate (9 - tag) None) ≡ Ok z → (z.0 ≡ ms) × PartsRead n tag parts bytes ys z.1
  parts_written zero tag at (b ∷ bytes) ys ms z all t h e = absurd (err_not_ok e)
  parts_written zero tag at [] ys ms z all t h e =
      let f = ok_is e in (
        ap (λ x. x.0) (sym f),
        record {
          entries = replicate (9 - tag) None;
          is = ap (λ x. x.1) (sym f);
          many = omega (arith, h, length-replicate {A = Option Part} (9 - tag) None);
          fit = none_fits n (9 - tag);
          count = ap length (no_parts (9 - tag) tag);
          same = ap part_bytes (sym (no_parts (9 - tag) tag));
        },
      )
  parts_written (suc more) tag at bytes ys ms z all t h e =
      let a = went_on _ _ _ _ z e in
      let b = went_on _ _ _ _ z a.then in
      let d = went_on _ _ _ _ z b.then in
      let wa = number_written_within tag 8 at bytes a.there all a.is in
      let wb = number_written_within 0 n a.there.1 a.there.2 b.there wa.0.rest b.is in
      let wd = number_written_within 1 (n - b.there.0) b.there.1 b.there.2 d.there wb.0.rest d.is in
      behind a.there.0 b.there.0 d.there.0 d.there.1 d.there.2 wa.1 wa.2 wd.1 (room b.there.0 d.there.0 wb.2 wd.1 wd.2) wd.0.rest
      (wa.0.is ∙ ap (λ l. leb128 a.there.0 ++ l) (wb.0.is ∙ ap (λ l. leb128 b.there.0 ++ l) wd.0.is))
      d.then (λ new start len at rest all longer to e. parts_written more (new + 1) at rest ((ys ++ replicate (new - tag) None) ++ (Some (record { left = start; right = start + len }) ∷ [])) ms z all longer to e)
    where
      room : (start len : ℕ) → start ≤ n → 1 ≤ len → len ≤ n - start → start + len ≤ n
      room start len s one l = omega (arith, s, one, l)

      behind : (new start len at : ℕ) (rest : List ℕ) → tag ≤ new → new ≤ 8 → 1 ≤ len → start + len ≤ n → AllBytes rest → bytes ≡ leb128 new ++ (leb128 start ++ (leb128 len ++ rest))
          → filled (parts_to_come n more (new + 1) at rest) ms (with_entry (ys ++ replicate (9 - tag) None) new (Some (record { left = start; right = start + len }))) ≡ Ok z
          → ((new start len at : ℕ) (rest : List ℕ) → AllBytes rest → new + 1 ≡ length ((ys ++ replicate (new - tag) None) ++ (Some (record { left = start; right = start + len }) ∷ [])) + 1 → new + 1 ≤ 9
          → filled (parts_to_come n more (new + 1) at rest) ms (((ys ++ replicate (new - tag) None) ++ (Some (record { left = start; right = start + len }) ∷ [])) ++ replicate (9 - (new + 1)) None) ≡ Ok z
          → (z.0 ≡ ms) × PartsRead n (new + 1) more rest ((ys ++ replicate (new - tag) None) ++ (Some (record { left = start; right = start + len }) ∷ [])) z.1)
          → (z.0 ≡ ms) × PartsRead n tag (suc more) bytes ys z.1
      behind new start len at rest from to one within all is e again =
          let part : Part = record { left = start; right = start + len } in
          let r = again new start len at rest all (longer ys tag new part t from to) (omega (arith, to)) (ap (filled (parts_to_come n more (new + 1) at rest) ms) (sym (entered ys tag new part t from to)) ∙ e) in
          (r.0, part_written n tag new start len more bytes rest ys z.1 t from to one within is r.1)

  runs_written : (runs end at : ℕ) (bytes xs : List ℕ) (z : List ℕ × List (Option Part)) → AllBytes bytes → length xs ≡ end → end ≤ n
      → filled (runs_to_come n runs end at bytes) (xs ++ replicate (n - end) 0) (replicate 8 None) ≡ Ok z → RunsRead n end runs bytes xs z.0 z.1
  runs_written zero end at bytes xs z all l h e =
      let a = went_on _ _ _ _ z e in
      let wa = number_written at bytes a.there all a.is in
      let p = parts_written a.there.0 1 a.there.1 a.there.2 [] (xs ++ replicate (n - end) 0) z wa.rest (omega arith) (omega arith) a.then in
      let r = p.1 in
      let eight : length z.1 ≡ 8 = omega (arith, ap length r.is, r.many) in
      record {
        rs = [];
        count = refl;
        longest = h;
        is = p.0;
        eight = eight;
        fit = ap (all_fit n) r.is ∙ r.fit;
        same = wa.is ∙ ap (λ l. l ++ a.there.2) (ap leb128 (sym (ap (λ es. length (parts_from 1 es)) r.is ∙ r.count))) ∙ ap (λ l. leb128 (length (parts_from 1 z.1)) ++ l) (r.same ∙ ap (λ es. part_bytes (parts_from 1 es)) (sym r.is));
      }
  runs_written (suc more) end at bytes xs z all l h e =
      let a = went_on _ _ _ _ z e in
      let b = went_on _ _ _ _ z a.then in
      let wa = number_written_within (least_gap end) (n - end) at bytes a.there all a.is in
      let gap = a.there.0 in
      let wb = number_written_within 1 (n - (end + gap)) a.there.1 a.there.2 b.there wa.0.rest b.is in
      let len = b.there.0 in
      let new : List ℕ = replicate gap 0 ++ replicate len 1 in
      let within : end + gap + len ≤ n = omega (arith, wa.2, wb.2, h) in
      let longer : length (xs ++ new) ≡ end + gap + len = grind (arith, common_steps, l) in
      let r = runs_written more (end + gap + len) b.there.1 b.there.2 (xs ++ new) z wb.0.rest longer within
      (ap (λ ms. filled (runs_to_come n more (end + gap + len) b.there.1 b.there.2) ms (replicate 8 None)) (sym (with_run_lem xs n end gap len l within)) ∙ b.then) in
      let room : n - (end + gap + len) ≡ n - end - (gap + len) = omega arith in
      let tail = leb128 (length (parts_from 1 z.1)) ++ part_bytes (parts_from 1 z.1) in
      record {
        rs = (gap, len) ∷ r.rs;
        count = ap suc r.count;
        longest = (wa.1, wb.1, r.longest);
        is = r.is ∙ append_assoc xs new (laid (n - (end + gap + len)) r.rs)
            ∙ ap (λ t. xs ++ t) (append_assoc (replicate gap 0) (replicate len 1) (laid (n - (end + gap + len)) r.rs) ∙ ap (λ i. replicate gap 0 ++ (replicate len 1 ++ laid i r.rs)) room);
        eight = r.eight;
        fit = r.fit;
        same = wa.0.is ∙ ap (λ t. leb128 gap ++ t) (wb.0.is ∙ ap (λ t. leb128 len ++ t) r.same)
            ∙ sym (append_assoc (leb128 gap) (leb128 len ++ run_bytes r.rs) tail ∙ ap (λ t. leb128 gap ++ t) (append_assoc (leb128 len) (run_bytes r.rs) tail));
      }

pub read_is_written : (n : ℕ) (bytes ms : List ℕ) (entries : List (Option Part)) → AllBytes bytes → n ≤ 160 → content_of n bytes ≡ Ok (ms, entries)
    → Fitting n ms entries × (marks ms ≡ ms) × (record_of ms entries ≡ bytes)
read_is_written n bytes ms entries all short e =
    let z : List ℕ × List (Option Part) = (ms, entries) in
    let a = went_on _ _ _ _ z e in
    let wa = number_written 0 bytes a.there all a.is in
    let from : n ≡ n - 0 = omega arith in
    let r = runs_written n a.there.0 0 a.there.1 a.there.2 [] z wa.rest refl (omega arith)
    (ap (λ k. filled (runs_to_come n a.there.0 0 a.there.1 a.there.2) (replicate k 0) (replicate 8 None)) (sym from) ∙ a.then) in
    let is : ms ≡ laid n r.rs = r.is ∙ ap (λ k. laid k r.rs) (sym from) in
    let again : runs_of ms ≡ r.rs = ap runs_of is ∙ runs_again n r.rs r.longest in
    let long : length ms ≡ n = ap length is ∙ laid_length n 0 n r.rs r.longest from in (
      record { short = short; one_each = long; eight = r.eight; parts_fit = r.fit },
      ap marks is ∙ marks_laid n r.rs ∙ sym is,
      rw again (sym (wa.is ∙ ap (λ k. leb128 k ++ a.there.2) (sym r.count) ∙ ap (λ t. leb128 (length r.rs) ++ t) r.same)),
    )

-- both, of any bytes
pub round_trip : (n : ℕ) (bytes : List ℕ) → ((i : ℕ) → get_or bytes i 0 < 256) → RoundTrip n bytes
round_trip n bytes h = record {
  written_is_read = λ ms entries fit e. ap (content_of n) e ∙ written_is_read n ms entries fit;
  read_is_written = λ ms entries short e. read_is_written n bytes ms entries (all_bytes bytes h) short e;
}

-- what is accepted is a record, and what has a fault is none
pub accepted : (n : ℕ) (bytes ms : List ℕ) (entries : List (Option Part)) → AllBytes bytes → n ≤ 160 → content_of n bytes ≡ Ok (ms, entries) → IsRecord n bytes
accepted n bytes ms entries all short e =
    let r = read_is_written n bytes ms entries all short e in
    record { ms = ms; entries = entries; fitting = r.0; is = sym r.2 }

pub refused : (n : ℕ) (bytes : List ℕ) (fault : Fault) → content_of n bytes ≡ Err fault → IsRecord n bytes → ⊥
refused n bytes fault e r = err_not_ok (sym e ∙ ap (content_of n) r.is ∙ written_is_read n r.ms r.entries r.fitting)
