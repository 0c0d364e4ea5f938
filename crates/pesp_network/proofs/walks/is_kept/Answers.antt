use Rattle.std.proofs.Common.{arith}
use Rattle.std.proofs.lemmas.Grind.{common_steps}
use Rattle.pesp_network.proofs.walks.is_kept.Goals as goal

pub returns-else-index-k : goal.returns-else-index-k
returns-else-index-k c = grind (arith, common_steps)
