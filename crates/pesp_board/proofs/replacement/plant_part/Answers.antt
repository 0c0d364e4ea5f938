use Rattle.std.proofs.Common.{rules}
use Rattle.pesp_board.proofs.replacement.plant_part.Goals as goal

pub returns-in-Leaf-clause-tree : goal.returns-in-Leaf-clause-tree
returns-in-Leaf-clause-tree c = search rules
