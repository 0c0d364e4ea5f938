use Rattle.std.proofs.Common.{rules}
use Rattle.pesp_runs.proofs.fault.status_of.Goals as goal

pub returns-in-Report : goal.returns-in-Report
returns-in-Report c = search rules

pub returns-in-Report-2 : goal.returns-in-Report-2
returns-in-Report-2 c = search rules
