use Rattle.std.proofs.Common.{rules, arith}
use Rattle.std.proofs.lemmas.Grind.{common_steps}
use Rattle.pesp_nodes.proofs.node.Node.put_back.Goals as goal

pub returns-in-Slack-clause-node : goal.returns-in-Slack-clause-node
returns-in-Slack-clause-node c = search rules

pub invariant_of-self-in-Offset : goal.invariant_of-self-in-Offset
invariant_of-self-in-Offset c = grind (arith, common_steps)
