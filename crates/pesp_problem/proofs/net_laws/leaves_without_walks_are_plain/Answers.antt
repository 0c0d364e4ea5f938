use Rattle.pesp_problem.proofs.Values.{value_without_walks, cost_without_walks}
use Rattle.pesp_problem.proofs.net_laws.leaves_without_walks_are_plain.Goals as goal

pub returns-clause-value : goal.returns-clause-value
returns-clause-value c = value_without_walks

pub returns-clause-cost : goal.returns-clause-cost
returns-clause-cost c = cost_without_walks
