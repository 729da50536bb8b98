-- A kept pattern, as it was written.
use Rattle.std.specs.Prelude.{take, Ok, Err, Result}
use Rattle.pattern.specs.declared.fault.Fault.{Fault}
use Rattle.pattern.specs.declared.kept.Pattern.{Pattern}
use Rattle.pattern.specs.Expressions.{Syntax}
use Rattle.pattern.specs.Trees.{tree}

-- a kept pattern as it was written: the expression of its root (240 is above every number in the table), the numbers of its tests, and how
-- many tags it has
abbrev pub syntax : Pattern → Syntax
syntax p = record { tree = tree 240 p.nodes p.root; codes = take p.tests p.codes; tags = p.tags }

-- the same of the answer of reading; a fault stays what it is
abbrev pub written : Result Pattern Fault → Result Syntax Fault
written (Ok p) = Ok (syntax p)
written (Err f) = Err f
