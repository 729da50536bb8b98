use Rattle.std.proofs.Common.{◌≡◌, ◌≤◌, min, length, get_or, Some, sym, arith, rules}
use Rattle.automaton.specs.RowList.{rows_of}
use Rattle.asking.specs.RowTables.{RowsOf}
use Rattle.pattern.specs.Patterns.{syntax}
use Rattle.shelf.proofs.Answering.{short_enough}
use Rattle.shelf.proofs.Shelf.asked.Goals as goal

pub returns : goal.returns
returns g c =
    let x = syntax c.in_ok-pattern.pattern.now in
    let found : c.rows.result ≡ Some c.in_ok-rows.rows = search rules in
    let rows : (length c.args.line.now ≤ 160) × RowsOf (λ k s. g.N.Alphabet.meaning c.args.self.now.notation (get_or c.codes.result.now k 0) s) (min 64 (length c.codes.result.now)) c.args.line.now (rows_of c.in_ok-rows.rows) = rw found at c.rows.ensures in
    let all : min 64 (length c.codes.result.now) ≡ length c.codes.result.now = omega (arith, c.codes.ensures.few) in
    (x, short_enough c.args.self.now.places c.args.place (length c.args.line.now) x c.in_ok-pattern.ensures.pattern_or_refusal rows.0, record { has_words = c.automaton.ensures; are_rows = rw (sym c.codes.ensures.codes, sym all) rows.1 })
