use Rattle.std.proofs.Common.{arith}
use Rattle.std.proofs.lemmas.Grind.{common_steps}
use Rattle.pesp_bound.proofs.differences.rise_bound.Goals as goal

pub overflow_sub-result : goal.overflow_sub-result
overflow_sub-result c = grind (arith, common_steps)

pub overflow_sub-result-else-plus : goal.overflow_sub-result-else-plus
overflow_sub-result-else-plus c = grind (arith, common_steps)

pub returns-then-plus-clause-size : goal.returns-then-plus-clause-size
returns-then-plus-clause-size c = grind (arith, common_steps)

pub returns-else-plus-clause-size : goal.returns-else-plus-clause-size
returns-else-plus-clause-size c = grind (arith, common_steps)
