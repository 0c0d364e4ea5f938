use Rattle.std.proofs.Common.{rules}
use Rattle.pesp_reduce.proofs.fates.is_kept.Goals as goal

pub returns-in-Bridge : goal.returns-in-Bridge
returns-in-Bridge c = search rules
