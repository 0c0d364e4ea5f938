use Rattle.std.proofs.Common.{rules}
use Rattle.pesp_nodes.proofs.value.weight_of.Goals as goal

pub returns-then-weighted-clause-value : goal.returns-then-weighted-clause-value
returns-then-weighted-clause-value c = search rules
