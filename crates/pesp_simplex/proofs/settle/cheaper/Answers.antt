use Rattle.std.proofs.Common.{rules}
use Rattle.pesp_simplex.proofs.settle.cheaper.Goals as goal

pub returns-then-cost_of-clause-no_dearer : goal.returns-then-cost_of-clause-no_dearer
returns-then-cost_of-clause-no_dearer c = search rules
