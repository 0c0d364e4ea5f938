use Rattle.std.proofs.Common.{arith}
use Rattle.std.proofs.lemmas.Grind.{common_steps}
use Rattle.pesp_bound.proofs.system.system_of.Goals as goal

pub edges_along-requires-clause-slacks_long : goal.edges_along-requires-clause-slacks_long
edges_along-requires-clause-slacks_long c = grind (arith, common_steps)

pub edges_along-requires-clause-shifts_long : goal.edges_along-requires-clause-shifts_long
edges_along-requires-clause-shifts_long c = grind (arith, common_steps)
