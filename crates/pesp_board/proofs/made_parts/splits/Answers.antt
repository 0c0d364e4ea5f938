use Rattle.std.proofs.Common.{rules}
use Rattle.pesp_board.proofs.made_parts.splits.Goals as goal

pub returns-then-range-k : goal.returns-then-range-k
returns-then-range-k c = search rules
