use Rattle.std.proofs.Common.{rules}
use Rattle.pesp_nodes.proofs.ends.end_for.Goals as goal

pub returns-then-factor-lt0 : goal.returns-then-factor-lt0
returns-then-factor-lt0 c = search rules
