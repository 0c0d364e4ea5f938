use Rattle.std.proofs.Common.{rules}
use Rattle.pesp_board.proofs.grafts.is_enough.Goals as goal

pub returns-in-Some : goal.returns-in-Some
returns-in-Some c = search rules
