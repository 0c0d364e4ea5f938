use Rattle.std.proofs.Common.{rules}
use Rattle.pesp_board.proofs.made_parts.make_propagated.Goals as goal

pub returns : goal.returns
returns c = search rules
