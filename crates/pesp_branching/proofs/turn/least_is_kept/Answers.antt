use Rattle.pesp_branching.proofs.Ends.{step_tightens, root_sets_least}
use Rattle.pesp_branching.proofs.turn.least_is_kept.Goals as goal

pub returns-clause-step : goal.returns-clause-step
returns-clause-step c = step_tightens

pub returns-clause-root : goal.returns-clause-root
returns-clause-root c = root_sets_least
