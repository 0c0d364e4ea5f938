use Rattle.std.proofs.Common.{rules}
use Rattle.pesp_turns.proofs.search.ended_by.Goals as goal

pub returns-in-Split-clause-used : goal.returns-in-Split-clause-used
returns-in-Split-clause-used c = search rules

pub returns-in-Closed-clause-ending : goal.returns-in-Closed-clause-ending
returns-in-Closed-clause-ending c = search rules
