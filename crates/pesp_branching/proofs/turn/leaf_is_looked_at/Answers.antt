use Rattle.pesp_branching.proofs.Turns.{looks}
use Rattle.pesp_branching.proofs.turn.leaf_is_looked_at.Goals as goal

pub returns : goal.returns
returns c = looks
