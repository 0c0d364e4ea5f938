use Rattle.std.proofs.Common.{rules}
use Rattle.pesp_propagate.proofs.support.supports_none.Goals as goal

pub returns-in-Stable : goal.returns-in-Stable
returns-in-Stable c = search rules
