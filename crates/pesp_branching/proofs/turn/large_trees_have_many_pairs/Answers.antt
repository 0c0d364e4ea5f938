use Rattle.pesp_branching.proofs.Sizes.{large_has_many}
use Rattle.pesp_branching.proofs.turn.large_trees_have_many_pairs.Goals as goal

pub returns : goal.returns
returns c = large_has_many
