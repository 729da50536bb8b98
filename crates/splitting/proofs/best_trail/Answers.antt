use Rattle.std.proofs.Common.{◌≡◌, ℕ, ◌<◌, ◌≤◌, List, ◌++◌, length, take, drop, append-nil, refl, ap, ◌∙◌, subst, inl, inr, arith, rules}
use lib.Bits.{bit_and}
use Rattle.std.specs.Bool.{then_some}
use Rattle.std.specs.Option.{ok_or}
use Rattle.std.proofs.Math.Seq.{drop-length, take-length}
use Rattle.std.proofs.lemmas.Bool.{cases_Bool, cases_eq}
use Rattle.std.proofs.lemmas.List.{length-set, length-take}
use Rattle.automaton.specs.Bit.{In}
use Rattle.automaton.proofs.Bits.{in_and, and_in, in_zero}
use Rattle.splitting.specs.declared.Unsplit.TheVariants.{NoTrail}
use Rattle.splitting.specs.Trails.{Room}
use Rattle.splitting.proofs.Optimal.{no_cells, first_cells, next_cells}
use Rattle.splitting.proofs.Tables.{low_none, low_set}
use Rattle.splitting.proofs.Whole.{row_may, may_row, empty_best, empty_none, missing, found}
use Rattle.splitting.proofs.best_trail.Goals as goal

pub returns-then-symbols-eq0 : goal.returns-then-symbols-eq0
returns-then-symbols-eq0 g c =
    let is = c.ok_or.ensures.value ∙ ap (λ o. ok_or o NoTrail) c.then_some.ensures in
    elim (cases_Bool c.args.automaton.now.nullable) [
      | inl y ↦ rw (is ∙ ap (λ b. ok_or (then_some b tt) NoTrail) y) (search rules, empty_best _ c.if-symbols-eq0.true y)
      | inr n ↦ rw (is ∙ ap (λ b. ok_or (then_some b tt) NoTrail) n) (search rules, empty_none c.if-symbols-eq0.true n, refl)
    ]

pub loop-i-init : goal.loop-i-init
loop-i-init g c = record {
  rows = refl;
  low = low_none 160 64;
  room = (omega (arith, c.split_at_mut-measures.ensures.front_len), omega (arith, c.split_at_mut-measures.ensures.back_len));
  cells = no_cells (g.met.R.Ranking.lawful c.args.ranking.now) _ c.fits-tags _ _ _ _;
}

-- what a call writes in the whole of a slice
whole : {M : Type 0} (new old : List M) → new ++ drop (length old) old ≡ new
whole new old = ap (λ t. new ++ t) (drop-length old) ∙ append-nil new

roomy : {M : Type 0} (new old : List M) → length new ≡ length (take (length old) old) → 64 ≤ length old → 64 ≤ length new
roomy new old e h = omega (arith, e, length-take (length old) old)

pub loop-i-preserved : goal.loop-i-preserved
loop-i-preserved g c =
    let i = c.loop-i.i in
    let inv = c.loop-i.invariant in
    let law = g.met.R.Ranking.lawful c.args.ranking.now in
    let inside : c.loop-i.i < length c.args.stretch.now = c.loop-i-test.true in
    let short : c.loop-i.i < 160 = omega (arith, inside, c.if-symbols-gt-MOST_SYMBOLS.false) in
    let here : c.loop-i.i < length c.loop-i.back = omega (arith, short, inv.rows) in
    let may_of = row_may _ _ c.args.stretch.now c.loop-i.i _ _ inside c.index-stretch-i.is c.row.ensures in
    let of_may = may_row _ _ c.args.stretch.now c.loop-i.i _ _ inside c.index-stretch-i.is c.row.ensures in
    let fronts = c.new-fronts.ensures in
    let next = c.advance-reached in
    let same : c.new-fronts.result.measures.now ≡ c.loop-i.measures.now = fronts.lent.2 ∙ take-length c.loop-i.measures.now in
    let e : c.swap.new.x.now ≡ c.advance-reached.new.after = ap (λ m. m.now) c.swap.ensures.x_after ∙ whole next.new.after c.loop-i.spare.now in
    let spare : c.swap.new.y.now ≡ c.loop-i.measures.now = ap (λ m. m.now) c.swap.ensures.y_after in
    rw (e, spare) (record {
      rows = length-set c.loop-i.back i next.result.previous ∙ inv.rows;
      low = low_set c.loop-i.back i next.result.previous here next.ensures.low inv.low;
      room = (roomy next.new.after c.loop-i.spare.now next.auto.after inv.room.1, inv.room.0);
      cells = elim (cases_eq c.loop-i.i 0) [
        | inl z ↦ first_cells law _ c.fits-tags _ _ c.loop-i.i _ _ _ _ z (next.ensures.first (fronts.reached.0 ∙ z)) may_of of_may
            (rw (fronts.lent.0, fronts.lent.1) at (next.ensures.begun (fronts.reached.0 ∙ z)))
        | inr n ↦
            (let later : 0 < c.new-fronts.result.symbols = omega (arith, fronts.reached.0, n) in
            next_cells law _ c.fits-tags _ _ c.loop-i.i _ _ _ _ _ _ _ (omega (arith, n)) short here may_of of_may inv.cells
            (rw (fronts.lent.0, same, fronts.reached.1) at (next.ensures.preceded later)) (rw (fronts.lent.0, fronts.lent.1, same) at (next.ensures.stepped later)))
      ];
    })

-- a set that has nothing in common with another
no_both : (x y p : ℕ) → bit_and x y ≡ 0 → In x p → In y p → ⊥
no_both x y p z e f = in_zero (subst (λ s. In s p) z (and_in {x = x} {y = y} e f))

pub returns-in_default : goal.returns-in_default
returns-in_default g c =
    let end : c.loop-i.i ≡ length c.args.stretch.now = omega (arith, c.loop-i-test.false, c.loop-i.auto.i-end) in
    let z = rw (c.new-fronts-2.ensures.reached.1) at c.in_default.ensures in
    (search rules, missing (g.met.R.Ranking.lawful c.args.ranking.now) c.fits-tags c.if-symbols-eq0.false (rw end at c.loop-i.invariant.cells) (λ q e f. search (rules, no_both)), refl)

-- a position that may end a trail is live
live_one : (x y p : ℕ) → In (bit_and x y) p → In x p
live_one x y p e = (in_and {x = x} {y = y} e).0

pub overflow_cast-last : goal.overflow_cast-last
overflow_cast-last g c =
    let e = rw (c.new-fronts-2.ensures.reached.1) at c.in-Some.ensures.candidate in
    let k : In c.loop-i.live c.in-Some.last = search (rules, live_one) in
    omega (arith, c.loop-i.invariant.cells.low c.in-Some.last k)

pub walk_back-requires-clause-room : goal.walk_back-requires-clause-room
walk_back-requires-clause-room g c =
    let e = rw (c.new-fronts-2.ensures.reached.1) at c.in-Some.ensures.candidate in
    let k : In c.loop-i.live c.in-Some.last = search (rules, live_one) in
    (c.loop-i.invariant.cells.low c.in-Some.last k, omega (arith, length-take (length c.args.stretch.now) c.args.trail.now))

pub returns : goal.returns
returns g c =
    let fronts = c.new-fronts-2.ensures in
    let same : c.new-fronts-2.result.measures.now ≡ c.loop-i.measures.now = fronts.lent.2 ∙ take-length c.loop-i.measures.now in
    let end : c.loop-i.i ≡ length c.args.stretch.now = omega (arith, c.loop-i-test.false, c.loop-i.auto.i-end) in
    let pick = rw (fronts.lent.0, same, fronts.reached.1) at c.in-Some.ensures in
    let room : Room (length c.args.stretch.now) (length c.args.trail.now) (length c.args.work.now) = search rules in
    (room, found (g.met.R.Ranking.lawful c.args.ranking.now) c.fits-tags c.if-symbols-eq0.false (rw end at c.loop-i.invariant.cells) c.in-Some.last pick _ _ room.0 room.1 c.walk_back.ensures)
