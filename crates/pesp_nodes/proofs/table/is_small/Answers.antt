use Rattle.std.proofs.Common.{arith}
use Rattle.std.proofs.lemmas.Grind.{common_steps}
use Rattle.pesp_nodes.proofs.table.is_small.Goals as goal

pub returns-then-rows-gt-MOST_SIGNED_ROWS : goal.returns-then-rows-gt-MOST_SIGNED_ROWS
returns-then-rows-gt-MOST_SIGNED_ROWS c = grind (arith, common_steps)

pub loop-walk-preserved : goal.loop-walk-preserved
loop-walk-preserved c = grind (arith, common_steps)

pub returns : goal.returns
returns c = grind (arith, common_steps)
