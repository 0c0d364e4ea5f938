use Rattle.std.proofs.Common.{rules}
use Rattle.pesp_nodes.proofs.nets.with_sign.Goals as goal

pub returns-then-s : goal.returns-then-s
returns-then-s c = search rules
