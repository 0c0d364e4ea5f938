use Rattle.std.proofs.Common.{rules, arith}
use Rattle.std.proofs.lemmas.Grind.{common_steps}
use Rattle.pesp_bound.proofs.best.best_leaf_from.Goals as goal

pub returns-clause-leaf : goal.returns-clause-leaf
returns-clause-leaf c = search rules

pub returns-clause-decided : goal.returns-clause-decided
returns-clause-decided c = grind (arith, common_steps)
