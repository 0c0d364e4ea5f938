use Rattle.std.proofs.Common.{rules}
use Rattle.pesp_board.proofs.certification.is_propagated.Goals as goal

pub returns-in-Bound : goal.returns-in-Bound
returns-in-Bound c = search rules
