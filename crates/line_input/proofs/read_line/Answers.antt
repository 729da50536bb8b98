use Rattle.std.proofs.Common.{◌≡◌, ◌==◌, ◌↔◌, ◌++◌, [], true, false, true≢false, ◌<◌, nat_lt, length, take, drop, Some, IfSome, rules, refl, arith, sym, ap, ◌∙◌, subst, length-append}
use Rattle.std.proofs.KnownBytes.{Consumes-trans}
use Rattle.std.proofs.lemmas.Bool.{lt-ltb}
use Rattle.std.specs.Io.Buffered.{reader_buffer, reader_remaining, reader_capacity}
use Rattle.std.specs.Option.{is_some}
use Rattle.text.specs.Lines.{held, front, through, ends}
use Rattle.line_input.specs.declared.Ending.TheVariants.{LineFeed}
use Rattle.line_input.proofs.Pieces.{Reads, no_feed, some_feed, is_there, takes, held_first, all_taken, line_held, line_ended, input_ended}
use Rattle.line_input.proofs.read_line.Given.{Over}
use Rattle.line_input.proofs.read_line.Goals.{Then-ended, After-then_some}
use Rattle.line_input.proofs.read_line.Goals as goal

pub returns-then-ended-clause-at_hand : goal.returns-then-ended-clause-at_hand
returns-then-ended-clause-at_hand g c = λ whole.
    let first = c.loop.invariant.first_turn whole in
    let bytes = ap reader_buffer first.1 in
    let held_then = line_held (reader_buffer c.loop.input) (ap ends bytes ∙ whole) in
    let same = ap reader_buffer (c.in_ok-wait_for_input.ensures.held held_then).0 ∙ bytes in (
      refl,
      c.take_chunk-n.ensures.held ∙ ap (λ l. take g.row.MOST (l ++ front (reader_buffer c.wait_for_input.new.input))) first.3 ∙ ap (λ l. take g.row.MOST (front l)) same,
      c.take_chunk-n.ensures.buffer ∙ ap (λ l. drop (through l) l) same,
    )

at_line_feed : (g : Over) (c : Then-ended g) → Reads g.row.MOST (reader_remaining g.R.Read.remaining c.args.input.now) (reader_remaining g.R.Read.remaining c.take_chunk-n.new.input) (held c.take_chunk-n.new.line) true true
at_line_feed g c =
    let d = c.loop.invariant.read in
    let w = c.in_ok-wait_for_input.ensures in
    let waited = c.wait_for_input.new.input in
    let shown = reader_buffer waited in
    let t = takes g.row.MOST _ _ _ shown _ _ (held_first (reader_capacity waited == 0) shown (g.R.Read.remaining waited.inner)) w.end w.kept c.take_chunk-n.ensures.rest c.take_chunk-n.ensures.held in
    let ended : ends shown ≡ true = sym c.take_chunk-n.ensures.ended ∙ c.if-ended.true in
    line_ended _ _ _ _ d.0 t.0 _ c.take_chunk-n.ensures.cuts d.1 t.5 d.2 (t.2 ∙ ended) (t.3 ∙ sym t.1) (t.4 ∙ ap (λ l. take g.row.MOST (l ++ front t.0)) d.3)

at_end : (g : Over) (c : After-then_some g) → Reads g.row.MOST (reader_remaining g.R.Read.remaining c.args.input.now) (reader_remaining g.R.Read.remaining c.take_chunk-n.new.input) (held c.take_chunk-n.new.line) c.loop.there false
at_end g c =
    let d = c.loop.invariant.read in
    let w = c.in_ok-wait_for_input.ensures in
    let waited = c.wait_for_input.new.input in
    let shown = reader_buffer waited in
    let t = takes g.row.MOST _ _ _ shown _ _ (held_first (reader_capacity waited == 0) shown (g.R.Read.remaining waited.inner)) w.end w.kept c.take_chunk-n.ensures.rest c.take_chunk-n.ensures.held in
    let none : through shown ≡ 0 = omega (arith, c.if-n-eq0.true, c.take_chunk-n.ensures.count) in
    subst (λ there. Reads g.row.MOST (reader_remaining g.R.Read.remaining c.args.input.now) (reader_remaining g.R.Read.remaining c.take_chunk-n.new.input) (held c.take_chunk-n.new.line) there false) (sym d.4)
    (input_ended _ _ _ _ d.0 t.0 _ d.1 t.5 (t.6 none) d.2 (t.1 ∙ none) (t.4 ∙ ap (λ l. take g.row.MOST (l ++ front t.0)) d.3))

pub returns-then-ended-clause-kept : goal.returns-then-ended-clause-kept
returns-then-ended-clause-kept g c = (at_line_feed g c).0

pub returns-then-ended-clause-there : goal.returns-then-ended-clause-there
returns-then-ended-clause-there g c = (at_line_feed g c).1

pub returns-then-ended-clause-rest : goal.returns-then-ended-clause-rest
returns-then-ended-clause-rest g c = (at_line_feed g c).2

pub returns-then-ended-clause-ended : goal.returns-then-ended-clause-ended
returns-then-ended-clause-ended g c = some_feed _ (at_line_feed g c).3

pub returns-then-n-eq0-clause-kept : goal.returns-then-n-eq0-clause-kept
returns-then-n-eq0-clause-kept g c = (at_end g c).0

pub returns-then-n-eq0-clause-there : goal.returns-then-n-eq0-clause-there
returns-then-n-eq0-clause-there g c =
    subst (λ there. IfSome (reader_remaining g.R.Read.remaining c.args.input.now) (λ xs. there ≡ nat_lt 0 (length xs))) (sym (ap is_some c.then_some.ensures ∙ is_there c.loop.there _)) (at_end g c).1

pub returns-then-n-eq0-clause-rest : goal.returns-then-n-eq0-clause-rest
returns-then-n-eq0-clause-rest g c = (at_end g c).2

pub returns-then-n-eq0-clause-ended : goal.returns-then-n-eq0-clause-ended
returns-then-n-eq0-clause-ended g c =
    subst (λ ending. IfSome (reader_remaining g.R.Read.remaining c.args.input.now) (λ xs. (ending ≡ Some LineFeed) ↔ (ends xs ≡ true))) (sym c.then_some.ensures) (no_feed c.loop.there _ (at_end g c).3)

pub loop-preserved : goal.loop-preserved
loop-preserved g c =
    let d = c.loop.invariant.read in
    let w = c.in_ok-wait_for_input.ensures in
    let waited = c.wait_for_input.new.input in
    let shown = reader_buffer waited in
    let t = takes g.row.MOST _ _ _ shown _ _ (held_first (reader_capacity waited == 0) shown (g.R.Read.remaining waited.inner)) w.end w.kept c.take_chunk-n.ensures.rest c.take_chunk-n.ensures.held in
    let unended : ends shown ≡ false = sym c.take_chunk-n.ensures.ended ∙ c.if-ended.false in
    let some : 0 < through shown = omega (arith, c.if-n-eq0.false, c.take_chunk-n.ensures.count) in
    let cut = c.take_chunk-n.ensures.cuts [] d.0 t.0 d.2 in
    record {
      read = (
        d.0 ++ t.0,
        Consumes-trans _ _ _ d.0 t.0 d.1 t.5,
        sym cut.2 ∙ t.2 ∙ unended,
        t.4 ∙ ap (λ l. take g.row.MOST (l ++ front t.0)) d.3 ∙ cut.0,
        sym (lt-ltb 0 _ (omega (arith, length-append d.0 t.0, t.1, some))),
      );
      first_turn = λ whole.
          let bytes = ap reader_buffer (c.loop.invariant.first_turn whole).1 in
          let held_then = line_held (reader_buffer c.loop.input) (ap ends bytes ∙ whole) in
          absurd (true≢false (sym (ap ends (ap reader_buffer (w.held held_then).0 ∙ bytes) ∙ whole) ∙ unended));
      none_at_hand = λ _. ap ends (c.take_chunk-n.ensures.buffer ∙ all_taken shown unended);
      written = search rules;
    }
