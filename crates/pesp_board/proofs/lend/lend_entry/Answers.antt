use Rattle.std.proofs.Common.{rules}
use Rattle.pesp_board.proofs.lend.lend_entry.Goals as goal

pub returns-then-not-is_cheaper : goal.returns-then-not-is_cheaper
returns-then-not-is_cheaper c = search rules
