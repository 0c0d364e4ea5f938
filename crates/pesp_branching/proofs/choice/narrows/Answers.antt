use Rattle.std.proofs.Common.{rules}
use Rattle.pesp_branching.proofs.choice.narrows.Goals as goal

pub returns-then-k-range-clause-counts : goal.returns-then-k-range-clause-counts
returns-then-k-range-clause-counts c = search rules
