use Rattle.pesp_branching.proofs.Singles.{single_small}
use Rattle.pesp_branching.proofs.turn.single_pairs_have_small_values.Goals as goal

pub returns : goal.returns
returns c = single_small
