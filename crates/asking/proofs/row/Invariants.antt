use Rattle.std.proofs.Common.{◌≡◌, ℕ, List, ◌++◌, min, length, take}
use Rattle.std.specs.Slice.Iter.{iter_rest}
use Rattle.asking.proofs.Rowing.{RowOfCodes}
use Rattle.asking.proofs.row.Given as goal

abbrev pub invariant-loop-code : goal.invariant-loop-code
invariant-loop-code g l =
    (done : List ℕ) × (iter_rest l.code-iterator.iter ++ done ≡ take (min 64 (length l.codes)) l.codes)
    × RowOfCodes (λ code. g.A.Alphabet.meaning l.alphabet code l.symbol) done l.admitted
