use Rattle.std.proofs.Common.{arith}
use Rattle.std.proofs.lemmas.Grind.{common_steps}
use Rattle.pesp_network.proofs.chains.Chains.next_at.Goals as goal

pub returns-then-arcs-k : goal.returns-then-arcs-k
returns-then-arcs-k c = grind (arith, common_steps)

pub returns-else-arcs-k : goal.returns-else-arcs-k
returns-else-arcs-k c = grind (arith, common_steps)
