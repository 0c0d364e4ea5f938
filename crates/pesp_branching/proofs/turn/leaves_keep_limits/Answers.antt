use Rattle.pesp_branching.proofs.Sizes.{path_cuts, leaf_pairs}
use Rattle.pesp_branching.proofs.turn.leaves_keep_limits.Goals as goal

pub returns-clause-cuts : goal.returns-clause-cuts
returns-clause-cuts c = path_cuts

pub returns-clause-pairs : goal.returns-clause-pairs
returns-clause-pairs c = leaf_pairs
