use Rattle.std.proofs.Common.{rules}
use Rattle.pesp_nodes.proofs.offsets.shared.Goals as goal

pub returns-then-low-high-clause-value : goal.returns-then-low-high-clause-value
returns-then-low-high-clause-value c = search rules

pub returns-then-low-high-clause-within : goal.returns-then-low-high-clause-within
returns-then-low-high-clause-within c = search rules

pub returns-clause-value : goal.returns-clause-value
returns-clause-value c = search rules

pub returns-clause-within : goal.returns-clause-within
returns-clause-within c = search rules
