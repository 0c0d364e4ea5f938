use Rattle.std.proofs.Common.{arith}
use Rattle.std.proofs.lemmas.Grind.{common_steps}
use Rattle.pesp_bound.proofs.closed_way.walk_along.Goals as goal

pub bounds-rows-k : goal.bounds-rows-k
bounds-rows-k c = grind (arith, common_steps)
