use Rattle.std.proofs.Common.{rules}
use Rattle.pesp_network.proofs.limits.is_good.Goals as goal

pub returns-then-unsigned_abs-le-MOST_LOWER : goal.returns-then-unsigned_abs-le-MOST_LOWER
returns-then-unsigned_abs-le-MOST_LOWER c = search rules
