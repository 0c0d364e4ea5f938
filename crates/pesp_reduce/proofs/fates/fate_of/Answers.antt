use Rattle.std.proofs.Common.{rules}
use Rattle.pesp_reduce.proofs.fates.fate_of.Goals as goal

pub returns-then-contracted : goal.returns-then-contracted
returns-then-contracted c = search rules
