use Rattle.std.proofs.Common.{◌≡◌, ℕ, ◌<◌, List, ◌++◌, min, length, get_or, take}
use Rattle.std.specs.Slice.Iter.{iter_rest}
use Rattle.asking.proofs.Rowing.{RowOfCodes}
use Rattle.asking.proofs.rows.Given as goal

abbrev pub invariant-loop-test : goal.invariant-loop-test
invariant-loop-test g l =
    (done : List ℕ) × (iter_rest l.test-iterator.iter ++ done ≡ take (min 64 (length l.codes)) l.codes)
    × (length l.rows ≡ 160) × ((i : ℕ) (d : g.row.A-Symbol.Denot) → i < length l.line → RowOfCodes (λ code. g.A.Alphabet.meaning l.alphabet code (get_or l.line i d)) done (get_or l.rows i 0))
