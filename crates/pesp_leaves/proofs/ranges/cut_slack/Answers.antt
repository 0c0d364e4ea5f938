use Rattle.std.proofs.Common.{rules}
use Rattle.pesp_leaves.proofs.ranges.cut_slack.Goals as goal

pub returns-in-High : goal.returns-in-High
returns-in-High c = search rules
