-- By what a line is reported.
use Rattle.std.specs.Prelude.{ℕ, Bool, List, length, slice_index}
use Rattle.automaton.specs.declared.machine.Automaton.{Automaton}
use Rattle.asking.specs.RowTables.{RowsOf}
use Rattle.pattern.specs.Expressions.{Syntax}
use Rattle.pattern.specs.Spelling.{HasWords}

-- the automaton has the words of the pattern, and the rows are, for each symbol of the line, the tests of the pattern that admit it
pub record Asked {S : Type 0} (meaning : ℕ → S → Bool) (line : List S) (x : Syntax) (automaton : Automaton) (rows : List ℕ) : Type 0 where
  pub has_words : HasWords (length x.codes) x.tree automaton
  pub are_rows : RowsOf (λ k s. meaning (slice_index x.codes k) s) (length x.codes) line rows
