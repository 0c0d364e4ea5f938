use Rattle.std.proofs.Common.{rules}
use Rattle.pesp_board.proofs.give.add_pairs.Goals as goal

pub returns-then-own-count : goal.returns-then-own-count
returns-then-own-count c = search rules
