use Rattle.std.proofs.Common.{arith}
use Rattle.std.proofs.lemmas.Grind.{common_steps}
use Rattle.pesp_bound.proofs.edge.is_settled.Goals as goal

pub returns : goal.returns
returns c = grind (arith, common_steps)
