use Rattle.std.proofs.Common.{refl}
use Rattle.pesp_truth.specs.Trees as trees
use Rattle.pesp_branching.proofs.expansion.part_line.Goals as goal

pub returns-then-part : goal.returns-then-part
returns-then-part c = record { leaf = trees.Nothing c.new-pairs.result; says = refl }

pub returns-else-part : goal.returns-else-part
returns-else-part c = record { leaf = trees.Bound c.new-pairs.result; says = refl }
