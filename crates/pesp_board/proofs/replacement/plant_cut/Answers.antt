use Rattle.std.proofs.Common.{rules}
use Rattle.pesp_board.proofs.replacement.plant_cut.Goals as goal

pub returns-clause-nodes : goal.returns-clause-nodes
returns-clause-nodes c = search rules
