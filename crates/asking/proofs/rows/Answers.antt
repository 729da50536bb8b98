use Rattle.std.proofs.Common.{◌≡◌, ℕ, ◌<◌, ◌≤◌, Bool, List, [], ◌∷◌, min, length, get_or, take, replicate, Option, Some, None, sym, subst, arith, rules, length-take-le}
use Rattle.std.proofs.lemmas.List.{get_or-replicate}
use Rattle.std.specs.Prelude.{MatchOption}
use Rattle.automaton.specs.declared.rows.Rows.{Rows}
use Rattle.automaton.specs.RowList.{rows_of}
use Rattle.asking.specs.RowTables.{RowsOf}
use Rattle.asking.proofs.Rowing.{RowOfCodes, no_codes, code_asked, first_codes, rows_by_place, fewer, taken, none_left}
use Rattle.asking.proofs.rows.Goals as goal

pub loop-test-init : goal.loop-test-init
loop-test-init g c =
    let admits : ℕ → g.row.A-Symbol.Denot → ℕ → Bool = λ i d code. g.A.Alphabet.meaning c.args.alphabet.now code (get_or c.args.line.now i d) in
    let bare : (i : ℕ) → i < length c.args.line.now → get_or (replicate 160 0) i 0 ≡ 0 = λ i h. get_or-replicate 160 i 0 0 (omega (arith, h, c.if-line-gt-MOST_SYMBOLS.false)) in
    ([], search rules, search rules, λ i d h. subst (RowOfCodes (admits i d) []) (sym (bare i h)) (no_codes (admits i d)))

pub loop-test-preserved : goal.loop-test-preserved
loop-test-preserved g c =
    let inv = c.loop-test.invariant in
    let code = c.in-Some.test.now in
    let few = fewer _ _ inv.0 c.args.codes.now code c.in-Some.ensures.steps inv.1 in (
      code ∷ inv.0,
      taken _ _ inv.0 _ code c.in-Some.ensures.steps inv.1,
      c.ask_all.array_long,
      λ i d h. code_asked (λ code. g.A.Alphabet.meaning c.args.alphabet.now code (get_or c.args.line.now i d)) code inv.0 _ _ few (inv.3 i d h) (c.ask_all.ensures i d h),
    )

-- the rows that are handed out
handed_out : {S : Type 0} (p : ℕ → S → Bool) (n : ℕ) (line : List S) (list : List ℕ) (r : Option Rows) → RowsOf p n line (take (length line) list)
    → MatchOption r (160 < length line) (λ rows. (length line ≤ 160) × (rows_of rows ≡ take (length line) list)) → MatchOption r (160 < length line) (λ rows. (length line ≤ 160) × RowsOf p n line (rows_of rows))
handed_out p n line list None a h = h
handed_out p n line list (Some rows) a h = (h.0, subst (RowsOf p n line) (sym h.1) a)

pub returns : goal.returns
returns g c =
    let n = min 64 (length c.args.codes.now) in
    let inv = c.loop-test.invariant in
    let all : inv.0 ≡ take n c.args.codes.now = none_left _ inv.0 _ c.in-None.ensures.steps.0 inv.1 in
    let p : ℕ → g.row.A-Symbol.Denot → Bool = λ k s. g.A.Alphabet.meaning c.args.alphabet.now (get_or c.args.codes.now k 0) s in
    handed_out p n c.args.line.now c.loop-test.rows c.of.result (rows_by_place p n c.args.line.now c.loop-test.rows (omega (arith, inv.2, c.if-line-gt-MOST_SYMBOLS.false))
    (λ i d h. first_codes (λ code. g.A.Alphabet.meaning c.args.alphabet.now code (get_or c.args.line.now i d)) n c.args.codes.now (get_or c.loop-test.rows i 0)
    (length-take-le n c.args.codes.now (search rules)) (subst (λ codes. RowOfCodes (λ code. g.A.Alphabet.meaning c.args.alphabet.now code (get_or c.args.line.now i d)) codes (get_or c.loop-test.rows i 0)) all (inv.3 i d h))))
    c.of.ensures
