use Rattle.pesp_branching.proofs.Turns.{steps}
use Rattle.pesp_branching.proofs.turn.leaf_is_split.Goals as goal

pub returns : goal.returns
returns c = steps
