use Rattle.std.proofs.Common.{rules}
use Rattle.pesp_problem.proofs.arc.arc_of.Goals as goal

pub returns : goal.returns
returns c = search rules
