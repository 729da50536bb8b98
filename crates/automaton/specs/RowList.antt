use Rattle.std.specs.Prelude.{ℕ, List, take}
use Rattle.automaton.specs.declared.rows.Rows.{Rows}

-- the rows of a line, first to last
unfoldable pub rows_of : Rows → List ℕ
rows_of r = take r.len r.list
