use Rattle.std.proofs.Common.{refl}
use Rattle.pattern.specs.Tags.{tag_set}
use Rattle.examples.specs.Table.{examples}
use Rattle.examples.proofs.Rows.{all_as_listed}
use Rattle.examples.proofs.examples_come_out.Goals as goal

-- one `refl` to a row of the table
-- src/lib.rt:5:1
pub returns : goal.returns
unfolding tag_set lib.Count.ones
returns c =
    all_as_listed examples
    (refl, (refl, (refl, (refl, (refl, (refl, (refl, (refl, (refl, (refl, (refl, (refl, (refl, (refl, (refl, (refl, (refl, (refl, (refl, (refl, (refl, (refl, (refl, (refl, (refl, (refl, (refl, (refl, (refl, tt)))))))))))))))))))))))))))))
