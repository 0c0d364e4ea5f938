use Rattle.std.proofs.Common.{arith}
use Rattle.std.proofs.lemmas.Grind.{common_steps}
use Rattle.pesp_board.proofs.give.lent_with.Goals as goal

pub returns-in-Lent : goal.returns-in-Lent
returns-in-Lent c = grind (arith, common_steps)
