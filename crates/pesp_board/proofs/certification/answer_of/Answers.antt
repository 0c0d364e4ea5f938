use Rattle.std.proofs.Common.{rules}
use Rattle.pesp_board.proofs.certification.answer_of.Goals as goal

pub returns-in-Some-best : goal.returns-in-Some-best
returns-in-Some-best c = search rules

pub returns-in_default-best-2 : goal.returns-in_default-best-2
returns-in_default-best-2 c = search rules
