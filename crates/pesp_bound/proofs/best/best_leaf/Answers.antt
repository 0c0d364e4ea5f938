use Rattle.std.proofs.Common.{rules}
use Rattle.pesp_bound.proofs.best.best_leaf.Goals as goal

pub returns-clause-leaf : goal.returns-clause-leaf
returns-clause-leaf c = search rules
