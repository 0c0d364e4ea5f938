use Rattle.pesp_nodes.proofs.LeafValues.{few_all}
use Rattle.pesp_nodes.proofs.laws.pairs_are_few.Goals as goal

pub returns : goal.returns
returns c cycles pairs are = few_all pairs cycles are
