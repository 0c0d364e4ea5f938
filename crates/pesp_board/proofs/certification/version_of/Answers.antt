use Rattle.std.proofs.Common.{arith}
use Rattle.std.proofs.lemmas.Grind.{common_steps}
use Rattle.pesp_board.proofs.certification.version_of.Goals as goal

pub returns-then-is_propagated : goal.returns-then-is_propagated
returns-then-is_propagated c = grind (arith, common_steps)
