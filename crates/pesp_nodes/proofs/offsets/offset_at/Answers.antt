use Rattle.std.proofs.Common.{rules}
use Rattle.pesp_nodes.proofs.offsets.offset_at.Goals as goal

pub returns-in-Low-clause-value : goal.returns-in-Low-clause-value
returns-in-Low-clause-value c = search rules

pub returns-in-Low-clause-size : goal.returns-in-Low-clause-size
returns-in-Low-clause-size c = search rules

pub returns-in-High-clause-value : goal.returns-in-High-clause-value
returns-in-High-clause-value c = search rules

pub returns-in-High-clause-size : goal.returns-in-High-clause-size
returns-in-High-clause-size c = search rules
