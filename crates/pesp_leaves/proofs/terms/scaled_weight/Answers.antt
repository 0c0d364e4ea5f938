use Rattle.std.proofs.Common.{rules}
use Rattle.pesp_leaves.proofs.terms.scaled_weight.Goals as goal

pub returns-then-weighted-clause-value : goal.returns-then-weighted-clause-value
returns-then-weighted-clause-value c = search rules
