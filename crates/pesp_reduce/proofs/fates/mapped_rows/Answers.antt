use Rattle.std.proofs.Common.{arith}
use Rattle.std.proofs.lemmas.Grind.{common_steps}
use Rattle.pesp_reduce.proofs.fates.mapped_rows.Goals as goal

pub mapped_row-requires-clause-tail : goal.mapped_row-requires-clause-tail
mapped_row-requires-clause-tail c = grind (arith, common_steps)

pub mapped_row-requires-clause-head : goal.mapped_row-requires-clause-head
mapped_row-requires-clause-head c = grind (arith, common_steps)

pub mapped_row-requires-clause-lower : goal.mapped_row-requires-clause-lower
mapped_row-requires-clause-lower c = grind (arith, common_steps)

pub loop-row-preserved : goal.loop-row-preserved
loop-row-preserved c = grind (arith, common_steps)

pub returns : goal.returns
returns c = grind (arith, common_steps)
