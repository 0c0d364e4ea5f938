use Rattle.std.proofs.Common.{arith}
use Rattle.std.proofs.lemmas.Grind.{common_steps}
use Rattle.pesp_nodes.proofs.passages.take_last.Goals as goal

pub returns-then-is_empty-clause-value : goal.returns-then-is_empty-clause-value
returns-then-is_empty-clause-value c = grind (arith, common_steps)

pub returns-then-is_empty-clause-rest : goal.returns-then-is_empty-clause-rest
returns-then-is_empty-clause-rest c = grind (arith, common_steps)

pub returns-then-last-cycle-clause-value : goal.returns-then-last-cycle-clause-value
returns-then-last-cycle-clause-value c = grind (arith, common_steps)

pub returns-then-last-cycle-clause-rest : goal.returns-then-last-cycle-clause-rest
returns-then-last-cycle-clause-rest c = grind (arith, common_steps)

pub returns-clause-value : goal.returns-clause-value
returns-clause-value c = grind (arith, common_steps)

pub returns-clause-rest : goal.returns-clause-rest
returns-clause-rest c = grind (arith, common_steps)
