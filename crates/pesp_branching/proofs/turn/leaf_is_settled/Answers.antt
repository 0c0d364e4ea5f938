use Rattle.pesp_branching.proofs.Turns.{settles}
use Rattle.pesp_branching.proofs.turn.leaf_is_settled.Goals as goal

pub returns : goal.returns
returns c = settles
