use Rattle.std.proofs.Common.{rules}
use Rattle.pesp_judges.proofs.leaf.is_positive.Goals as goal

pub returns-in-Some : goal.returns-in-Some
returns-in-Some c = search rules
