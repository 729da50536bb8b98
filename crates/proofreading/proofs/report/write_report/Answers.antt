use Rattle.std.proofs.Common.{◌≡◌, ◌+◌, ◌≤◌, ◌∷◌, ◌++◌, [], length, take, drop, ap, arith, length-append}
use Rattle.std.proofs.lemmas.Iterator.{YieldsList-from_slice}
use Rattle.std.proofs.lemmas.Iterator.Adapters.{YieldsList-from_skip}
use Rattle.std.proofs.lemmas.Iterator.Consumers.{YieldsList-at, YieldsList-from_enumerate, YieldsList-turn, YieldsList-end}
use Rattle.std.proofs.lemmas.List.{take_all}
use Rattle.text.proofs.Chains.{◌then◌, read_as, alone}
use Rattle.proofreading.specs.Reports.{number_lines}
use Rattle.proofreading.proofs.Lengths.{report_fits}
use Rattle.proofreading.proofs.Pushes.{length_from_one, lines_more}
use Rattle.proofreading.proofs.report.write_report.Goals as goal

pub returns : goal.returns
returns c =
    let ks = c.args.tally.now.by_number in
    let road = YieldsList-at c.into_iter-number-iterator.ensures.into_iter_gives
    (YieldsList-from_skip 1 (YieldsList-at c.skip-number-items.ensures.source (YieldsList-from_enumerate (YieldsList-at c.enumerate.ensures.source (YieldsList-from_slice ks c.iter.ensures.rest)) c.enumerate.ensures.count)) c.skip-number-items.ensures.count) in
    let end = YieldsList-end road c.loop-number.yielded _ c.loop-number.yielded_by _ _ c.in-None.is c.next.ensures.steps in
    let sixteen : length ks ≡ 16 = omega arith in
    let all : length (drop 1 ks) ≤ length c.loop-number.yielded = omega (arith, end.1, length_from_one ks) in
    let text = c.write_head.ensures then read_as (ap (number_lines 1) (take_all (length c.loop-number.yielded) (drop 1 ks) all)) c.loop-number.invariant in
    alone c.clear.ensures text (report_fits c.args.tally.now sixteen)

pub loop-number-preserved : goal.loop-number-preserved
loop-number-preserved c =
    let ks = c.args.tally.now.by_number in
    let road = YieldsList-at c.into_iter-number-iterator.ensures.into_iter_gives
    (YieldsList-from_skip 1 (YieldsList-at c.skip-number-items.ensures.source (YieldsList-from_enumerate (YieldsList-at c.enumerate.ensures.source (YieldsList-from_slice ks c.iter.ensures.rest)) c.enumerate.ensures.count)) c.skip-number-items.ensures.count) in
    let turn = YieldsList-turn road c.loop-number.yielded _ c.loop-number.yielded_by _ _ _ c.in-Some.is c.next.ensures.steps in
    let longer : length c.loop-number.yielded + 1 ≡ length (c.loop-number.yielded ++ (c.in-Some.number, c.in-Some.count) ∷ []) = omega (arith, length-append c.loop-number.yielded ((c.in-Some.number, c.in-Some.count) ∷ [])) in
    read_as (ap (λ m. number_lines 1 (take m (drop 1 ks))) longer) (lines_more ks (length c.loop-number.yielded) c.in-Some.number c.in-Some.count.now turn.0 turn.1 c.loop-number.invariant c.write_number.ensures)
