use Rattle.std.proofs.Common.{rules}
use Rattle.pesp_board.proofs.adoption.valued_bound.Goals as goal

pub returns-clause-valued : goal.returns-clause-valued
returns-clause-valued c = search rules
