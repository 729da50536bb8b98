use Rattle.std.proofs.Common.{◌≡◌, ◌+◌, ◌∷◌, ◌++◌, [], length, eqb, true, false, drop, sym, ap, ◌∙◌, arith, rules, tests, length-append}
use Rattle.std.proofs.lemmas.Iterator.Consumers.{YieldsList-at, YieldsList-turn, YieldsList-end}
use Rattle.std.proofs.lemmas.Iterator.Splits.{YieldsList-from_slice_split}
use Rattle.std.proofs.lemmas.List.{at_drop_all}
use Rattle.std.proofs.lemmas.Bool.{cond-true, cond-false}
use Rattle.text.proofs.Chains.{read_as, nothing}
use Rattle.cue.specs.Records.{run_bytes}
use Rattle.cue.proofs.Scans.{pieces, runs_in, runs_of_pieces, runs_more}
use Rattle.cue.proofs.Writes.{moved, run_then}
use Rattle.cue.proofs.writing.write_runs.Goals as goal
use Rattle.cue.proofs.writing.write_runs.Goals.{then-not-is_empty, else-not-is_empty}

pub loop-run-init : goal.loop-run-init
loop-run-init c = (λ u a. read_as (sym (ap run_bytes (runs_of_pieces c.args.marks.now))) a, omega arith)

pub loop-run-preserved : goal.loop-run-preserved
loop-run-preserved c =
    let turn = YieldsList-turn
    (YieldsList-at c.into_iter-run-iterator.ensures.into_iter_gives (YieldsList-from_slice_split _ (λ m. eqb m 0) c.args.marks.now c.split-run-items.ensures.rest c.split-run-items.ensures.done c.split-run-items.ensures.closure (λ x r q k. search (rules, tests))))
    c.loop-run.yielded _ c.loop-run.yielded_by _ _ c.in-Some.run' c.in-Some.is c.next.ensures.steps in
    let i = length c.loop-run.yielded in
    let gap = c.loop-run.gap in
    let here = runs_more gap (pieces c.args.marks.now) i c.in-Some.run'.now turn.0 turn.1 in
    let next = runs_in (c.if-not-is_empty.gap + 1) (drop (length (c.loop-run.yielded ++ c.in-Some.run' ∷ [])) (pieces c.args.marks.now)) in
    let longer : length (c.loop-run.yielded ++ c.in-Some.run' ∷ []) ≡ i + 1 = omega (arith, length-append c.loop-run.yielded (c.in-Some.run' ∷ [])) in
    elim c.if-not-is_empty.branch [
      | then-not-is_empty w ↦
          let some : eqb (length c.in-Some.run'.now) 0 ≡ false = sym c.is_empty.ensures ∙ w.if-not-is_empty.true in
          let one : c.if-not-is_empty.gap + 1 ≡ 1 = omega (arith, w.gap-is) in
          let same : runs_in 1 (drop (i + 1) (pieces c.args.marks.now)) ≡ next = cc in (
            λ u a. c.loop-run.invariant.0 u (read_as (sym (ap run_bytes (here ∙ cond-false _ _ _ some)))
                (run_then (gap, length c.in-Some.run'.now) (runs_in 1 (drop (i + 1) (pieces c.args.marks.now))) w.write_number.ensures w.write_number-then-not-is_empty.ensures (moved w.out-is (ap run_bytes same) a))),
            omega (arith, w.gap-is, longer),
          )
      | else-not-is_empty w ↦
          let none : eqb (length c.in-Some.run'.now) 0 ≡ true = sym c.is_empty.ensures ∙ w.if-not-is_empty.false in
          let same : runs_in (gap + 1) (drop (i + 1) (pieces c.args.marks.now)) ≡ next = cc (w.gap-is) in
          (λ u a. c.loop-run.invariant.0 u (moved w.out-is (ap run_bytes (here ∙ cond-true _ _ _ none ∙ same)) a), omega (arith, w.gap-is, longer, c.loop-run.invariant.1))
    ]

pub returns : goal.returns
returns c =
    let end = YieldsList-end
    (YieldsList-at c.into_iter-run-iterator.ensures.into_iter_gives (YieldsList-from_slice_split _ (λ m. eqb m 0) c.args.marks.now c.split-run-items.ensures.rest c.split-run-items.ensures.done c.split-run-items.ensures.closure (λ x r q k. search (rules, tests))))
    c.loop-run.yielded _ c.loop-run.yielded_by _ _ c.in-None.is c.next.ensures.steps in
    let none = at_drop_all (λ l. run_bytes (runs_in c.loop-run.gap l)) (pieces c.args.marks.now) (length c.loop-run.yielded) (omega (arith, end.1)) in
    c.loop-run.invariant.0 _ (read_as (sym none) (nothing c.loop-run.out))
