use Rattle.std.proofs.Common.{arith}
use Rattle.std.proofs.lemmas.Grind.{common_steps}
use Rattle.pesp_leaves.proofs.ranges.take_part.Goals as goal

pub returns-in-Slack-clause-node : goal.returns-in-Slack-clause-node
returns-in-Slack-clause-node c = grind (arith, common_steps)

pub returns-in-Offset-clause-node : goal.returns-in-Offset-clause-node
returns-in-Offset-clause-node c = grind (arith, common_steps)
