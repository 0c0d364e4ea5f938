use Rattle.std.proofs.Common.{rules}
use Rattle.pesp_board.proofs.made_parts.make_nothing.Goals as goal

pub returns-in_ok-copy-in-Some : goal.returns-in_ok-copy-in-Some
returns-in_ok-copy-in-Some c = search rules
