use Rattle.std.proofs.Common.{rules}
use Rattle.pesp_nodes.proofs.node.cut_offset.Goals as goal

pub returns-in-High-clause-part : goal.returns-in-High-clause-part
returns-in-High-clause-part c = search rules
