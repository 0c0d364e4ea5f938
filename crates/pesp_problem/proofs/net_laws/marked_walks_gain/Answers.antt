use Rattle.pesp_problem.proofs.Gains.{gain_is_enough, gain_at_times}
use Rattle.pesp_problem.proofs.net_laws.marked_walks_gain.Goals as goal

pub returns-clause-offset : goal.returns-clause-offset
returns-clause-offset c = gain_is_enough

pub returns-clause-times : goal.returns-clause-times
returns-clause-times c = gain_at_times
