use Rattle.std.proofs.Common.{rules}
use Rattle.pesp_nodes.proofs.value.lesser.Goals as goal

pub returns-clause-value : goal.returns-clause-value
returns-clause-value c = search rules

pub returns-clause-size : goal.returns-clause-size
returns-clause-size c = search rules
