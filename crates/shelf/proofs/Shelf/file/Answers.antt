-- The counts, and what is answered where a pattern stands, are shown by hand, though the check finds them by itself: where such a goal
-- does not hold, it searches for long.
use Rattle.std.proofs.Common.{◌≡◌, refl, Ok, Err, rules}
use Rattle.pattern.specs.Patterns.{syntax}
use Rattle.shelf.specs.declared.refusal.Refusal.TheVariants.{PlaceTaken}
use Rattle.shelf.specs.Filing.{filing, counts, FiledAfter}
use Rattle.shelf.proofs.HistorySteps.{filing_in_history}
use Rattle.shelf.proofs.Shelf.file.Goals as goal

pub returns-clause-counts_or_refusal : goal.returns-clause-counts_or_refusal
returns-clause-counts_or_refusal g c =
    let is : filing (g.N.Notation.reading c.args.self.now.notation) c.args.self.now.places c.args.place c.args.bytes.now ≡ Ok (syntax c.in_ok-pattern.pattern) = search rules in
    rw (is, c.tests.ensures, c.tags.ensures) refl

pub returns-clause-pattern_stands_there : goal.returns-clause-pattern_stands_there
returns-clause-pattern_stands_there g c =
    let reading = g.N.Notation.reading c.args.self.now.notation in
    let is : filing reading c.args.self.now.places c.args.place c.args.bytes.now ≡ Ok (syntax c.in_ok-pattern.pattern) = search rules in
    rw is (c.in_ok-pattern.pattern, refl, refl)

pub returns-clause-right_in_every_history : goal.returns-clause-right_in_every_history
returns-clause-right_in_every_history g c =
    filing_in_history g.N.Alphabet.meaning g.N.Notation.reading c.args.self.now _ c.args.place c.args.bytes.now (Ok (c.tests.result, c.tags.result))
    (returns-clause-counts_or_refusal g c) (returns-clause-pattern_stands_there g c) c.in_ok-pattern.ensures.keeps_meaning c.in_ok-pattern.ensures.keeps_reading

pub returns-in-Some-Some-clause-counts_or_refusal : goal.returns-in-Some-Some-clause-counts_or_refusal
returns-in-Some-Some-clause-counts_or_refusal g c =
    let is : filing (g.N.Notation.reading c.args.self.now.notation) c.args.self.now.places c.args.place c.args.bytes.now ≡ Err PlaceTaken = search rules in
    rw is refl

pub returns-in-Some-Some-clause-right_in_every_history : goal.returns-in-Some-Some-clause-right_in_every_history
returns-in-Some-Some-clause-right_in_every_history g c =
    let kept : FiledAfter (filing (g.N.Notation.reading c.args.self.now.notation) c.args.self.now.places c.args.place c.args.bytes.now) c.args.place c.args.self.now.places c.args.self.now.places = search rules in
    filing_in_history g.N.Alphabet.meaning g.N.Notation.reading c.args.self.now c.args.self.now c.args.place c.args.bytes.now (Err PlaceTaken) (returns-in-Some-Some-clause-counts_or_refusal g c) kept refl (λ bytes h. refl)

pub returns-in_err-pattern-clause-right_in_every_history : goal.returns-in_err-pattern-clause-right_in_every_history
returns-in_err-pattern-clause-right_in_every_history g c =
    let reading = g.N.Notation.reading c.args.self.now.notation in
    let answered : c.from_residual.result ≡ counts (filing reading c.args.self.now.places c.args.place c.args.bytes.now) = search rules in
    let kept : FiledAfter (filing reading c.args.self.now.places c.args.place c.args.bytes.now) c.args.place c.args.self.now.places c.args.self.now.places = search rules in
    filing_in_history g.N.Alphabet.meaning g.N.Notation.reading c.args.self.now _ c.args.place c.args.bytes.now _ answered kept c.in_err-pattern.ensures.keeps_meaning c.in_err-pattern.ensures.keeps_reading
