use Rattle.std.proofs.Common.{rules}
use Rattle.pesp_problem.proofs.exact.floor_div.Goals as goal

pub returns : goal.returns
returns c = search rules
