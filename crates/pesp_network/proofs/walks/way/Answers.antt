use Rattle.std.proofs.Common.{arith}
use Rattle.std.proofs.lemmas.Grind.{common_steps}
use Rattle.pesp_network.proofs.walks.way.Goals as goal

pub returns-then-index-clause-none : goal.returns-then-index-clause-none
returns-then-index-clause-none c = grind (arith, common_steps)

pub go_on-requires-clause-one_tree : goal.go_on-requires-clause-one_tree
go_on-requires-clause-one_tree c = grind (arith, common_steps)

pub returns-clause-way : goal.returns-clause-way
returns-clause-way c = grind (arith, common_steps)
