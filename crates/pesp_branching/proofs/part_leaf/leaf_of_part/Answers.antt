use Rattle.pesp_branching.proofs.Steps.{gap_leaf}
use Rattle.pesp_branching.proofs.part_leaf.leaf_of_part.Goals as goal

pub returns-in-Some-clause-leaf : goal.returns-in-Some-clause-leaf
returns-in-Some-clause-leaf c = gap_leaf c.args.problem.now c.args.node.now c.in-Some.cycle c.in-Some.ensures
