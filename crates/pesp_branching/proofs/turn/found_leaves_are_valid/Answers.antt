use Rattle.pesp_branching.proofs.Found.{found_is_valid}
use Rattle.pesp_branching.proofs.turn.found_leaves_are_valid.Goals as goal

pub returns : goal.returns
returns c = found_is_valid
