use Rattle.std.proofs.Common.{arith}
use Rattle.std.proofs.lemmas.Grind.{common_steps}
use Rattle.pesp_judges.proofs.table.root_slacks.Goals as goal

pub loop-row-preserved : goal.loop-row-preserved
loop-row-preserved c = grind (arith, common_steps)

pub returns-clause-slacks : goal.returns-clause-slacks
returns-clause-slacks c = grind (arith, common_steps)
