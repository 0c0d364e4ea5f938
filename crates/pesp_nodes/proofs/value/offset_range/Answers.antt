use Rattle.std.proofs.Common.{rules}
use Rattle.pesp_nodes.proofs.value.offset_range.Goals as goal

pub returns-clause-value : goal.returns-clause-value
returns-clause-value c = search rules
