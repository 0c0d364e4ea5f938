use Rattle.std.proofs.Common.{arith}
use Rattle.std.proofs.lemmas.Grind.{common_steps}
use Rattle.pesp_nodes.proofs.problem.Problem.root.Goals as goal

pub returns-clause-node : goal.returns-clause-node
returns-clause-node c = grind (arith, common_steps)
