use Rattle.std.proofs.Common.{◌≡◌, ℕ, ◌<◌, ◌≤◌, get_or}
use Rattle.asking.specs.RowTables.{WithTest}
use Rattle.asking.proofs.ask_all.Given as goal

abbrev pub invariant-loop-i : goal.invariant-loop-i
invariant-loop-i g l = record {
  asked : (k : ℕ) (s : g.row.A-Symbol.Denot) → k < l.i → WithTest (g.A.Alphabet.meaning l.alphabet l.code (get_or l.line k s)) (get_or l.initial.rows k 0) (get_or l.rows k 0);
  left : (k : ℕ) → l.i ≤ k → get_or l.rows k 0 ≡ get_or l.initial.rows k 0;
}
