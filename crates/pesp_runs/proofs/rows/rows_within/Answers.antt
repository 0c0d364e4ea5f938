use Rattle.std.proofs.Common.{rules}
use Rattle.pesp_runs.proofs.rows.rows_within.Goals as goal

pub returns-clause-least : goal.returns-clause-least
returns-clause-least c = search rules
