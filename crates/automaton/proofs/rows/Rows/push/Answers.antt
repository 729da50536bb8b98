use Rattle.std.proofs.Common.{ℕ, take, set, ap, ◌∙◌, add-one, take-suc-set, rules}
use Rattle.automaton.specs.RowList.{rows_of}
use Rattle.automaton.proofs.rows.Rows.push.Goals as goal

pub returns : goal.returns
unfolding rows_of
returns c =
    let s = c.args.self.now in
    let l = set s.list s.len c.args.row in
    ap (λ (n : ℕ). take n l) (add-one s.len) ∙ take-suc-set s.list s.len c.args.row (search rules)
