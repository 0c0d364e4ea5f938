use Rattle.std.proofs.Common.{rules}
use Rattle.pesp_leaves.proofs.offsets.scaled.Goals as goal

pub returns-then-factor-lt0-clause-value : goal.returns-then-factor-lt0-clause-value
returns-then-factor-lt0-clause-value c = search rules
