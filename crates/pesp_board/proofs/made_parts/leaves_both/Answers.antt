use Rattle.std.proofs.Common.{arith}
use Rattle.std.proofs.lemmas.Grind.{common_steps}
use Rattle.pesp_board.proofs.made_parts.leaves_both.Goals as goal

pub returns-then-range-k : goal.returns-then-range-k
returns-then-range-k c = grind (arith, common_steps)

pub returns-else-range-k : goal.returns-else-range-k
returns-else-range-k c = grind (arith, common_steps)

pub returns-else-cycle-table : goal.returns-else-cycle-table
returns-else-cycle-table c = grind (arith, common_steps)
