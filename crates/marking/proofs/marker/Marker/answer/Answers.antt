use Rattle.std.proofs.Common.{length, sym, refl, subst}
use Rattle.orders.specs.Orders.{wanted, to_file, to_withdraw, to_ask, IsOrder}
use Rattle.shelf.specs.Reports.{asked}
use Rattle.text.specs.Texts.{written}
use Rattle.text.proofs.Chains.{alone}
use Rattle.marking.specs.Answers.{Reported}
use Rattle.marking.proofs.Carrying.{answered}
use Rattle.marking.proofs.Lengths.{filing_short, withdrawing_short, reported_short}
use Rattle.marking.proofs.marker.Marker.answer.Goals as goal

pub returns-in-Some-File : goal.returns-in-Some-File
returns-in-Some-File c =
    let order = c.in-Some-File in
    answered (to_file order.place order.pattern.now) c.args.bytes.now c.args.self.now.shelf.places c.file.new.self.shelf.places (written c.file.new.out)
    (subst (λ o. IsOrder (wanted o) c.args.bytes.now) order.field-0-is order.ensures.read)
    order.ensures.no_other
    (alone c.clear.ensures c.file.ensures.printed (filing_short _), c.file.ensures.places)

pub returns-in-Some-Withdraw : goal.returns-in-Some-Withdraw
returns-in-Some-Withdraw c =
    let order = c.in-Some-Withdraw in
    answered (to_withdraw order.place) c.args.bytes.now c.args.self.now.shelf.places c.withdraw.new.self.shelf.places (written c.withdraw.new.out)
    (subst (λ o. IsOrder (wanted o) c.args.bytes.now) order.field-0-is order.ensures.read)
    order.ensures.no_other
    (alone c.clear.ensures c.withdraw.ensures.printed (withdrawing_short _), c.withdraw.ensures.places)

pub returns-in-Some-Ask : goal.returns-in-Some-Ask
returns-in-Some-Ask c =
    let order = c.in-Some-Ask in
    let places = c.args.self.now.shelf.places in
    let told = c.report.ensures in
    let line = order.line.now in
    let printed = alone c.clear.ensures told.2 (reported_short places order.place line told.0 told.1) in
    answered (to_ask order.place line) c.args.bytes.now places places (written c.report.new.out)
    (subst (λ o. IsOrder (wanted o) c.args.bytes.now) order.field-0-is order.ensures.read)
    order.ensures.no_other
    (subst (λ text. Reported (asked places order.place (length line)) line text) (sym printed) told.1, refl)
