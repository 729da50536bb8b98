use Rattle.std.proofs.Common.{◌≡◌, ◌≤◌, length, take, replicate, Ok, sym, refl, ap, ◌∙◌, subst, arith}
use Rattle.std.proofs.lemmas.List.{take-replicate}
use Rattle.cue.specs.Answers.{filled}
use Rattle.cue.specs.Cursors.{cues_left}
use Rattle.cue.specs.Contents.{AllFit}
use Rattle.cue.proofs.Filling.{all_fit, first_fits, fits_more, handed_out, added, as_long}
use Rattle.cue.proofs.reading.content_of.Goals as goal

pub loop-cue-init : goal.loop-cue-init
loop-cue-init c =
    let n = c.args.symbols in
    let cursor = c.in_ok-cursor.cursor in
    let found = c.new-found.result in
    let from = c.in_ok-cursor.ensures in
    let unmarked : take n found.marks ≡ replicate n 0 = ap (take n) c.new-found.ensures.unmarked ∙ take-replicate n 160 0 c.requires in
    (rw (from, unmarked, c.new-found.ensures.no_parts) refl, subst (AllFit n) (sym from) (all_fit n c.args.bytes.now), ap length c.new-found.ensures.unmarked)

pub loop-cue-preserved : goal.loop-cue-preserved
loop-cue-preserved c =
    let n = c.args.symbols in
    let k = cues_left c.loop-cue.cursor in
    let is = handed_out k c.next.new.self _ c.in-Some.cue (ap Ok c.in-Some.is) c.in_ok-cue.ensures.next_or_fault in
    let fit = first_fits n c.in-Some.cue (cues_left c.next.new.self) (subst (AllFit n) is c.loop-cue.invariant.1) in
    let room : n ≤ length c.loop-cue.found.marks = omega (arith, c.loop-cue.invariant.2, c.requires) in
    let same = ap (λ k. filled k (take n c.loop-cue.found.marks) c.loop-cue.found.sheet.entries) (sym is) ∙ c.loop-cue.invariant.0 in (
      added n c.in-Some.cue (cues_left c.next.new.self) c.loop-cue.found c.add.new.self _ room fit.0 c.add.ensures same,
      fit.1,
      as_long n c.in-Some.cue c.loop-cue.found c.add.new.self room fit.0 c.add.ensures ∙ c.loop-cue.invariant.2,
    )

pub add-requires : goal.add-requires
add-requires c =
    let n = c.args.symbols in
    let is = handed_out (cues_left c.loop-cue.cursor) c.next.new.self _ c.in-Some.cue (ap Ok c.in-Some.is) c.in_ok-cue.ensures.next_or_fault in
    fits_more n 160 c.in-Some.cue c.requires (first_fits n c.in-Some.cue (cues_left c.next.new.self) (subst (AllFit n) is c.loop-cue.invariant.1)).0
