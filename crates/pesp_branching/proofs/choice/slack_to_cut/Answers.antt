use Rattle.std.proofs.Common.{rules}
use Rattle.pesp_branching.proofs.choice.slack_to_cut.Goals as goal

pub returns-then-range-clause-counts : goal.returns-then-range-clause-counts
returns-then-range-clause-counts c = search rules
