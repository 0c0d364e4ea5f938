use Rattle.std.proofs.Common.{arith}
use Rattle.std.proofs.lemmas.Grind.{common_steps}
use Rattle.pesp_turns.proofs.PathNodes.{at_root}
use Rattle.pesp_turns.proofs.path_node.node_from.Goals as goal

pub loop-step-init : goal.loop-step-init
loop-step-init c = at_root c.args.root.now c.in_ok-node.node c.args.path.now c.in_ok-node.ensures

pub loop-step-preserved : goal.loop-step-preserved
loop-step-preserved c = grind (arith, common_steps)

pub returns-clause-at : goal.returns-clause-at
returns-clause-at c = grind (arith, common_steps)
