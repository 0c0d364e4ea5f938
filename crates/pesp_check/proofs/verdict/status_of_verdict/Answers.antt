use Rattle.std.proofs.Common.{rules}
use Rattle.pesp_check.proofs.verdict.status_of_verdict.Goals as goal

pub returns-in-Refused : goal.returns-in-Refused
returns-in-Refused c = search rules
