use Rattle.std.proofs.Common.{rules}
use Rattle.pesp_board.proofs.grafts.graft_gap.Goals as goal

pub returns-then-not-is_gap : goal.returns-then-not-is_gap
returns-then-not-is_gap c = search rules

pub returns : goal.returns
returns c = search rules
