use Rattle.pesp_problem.proofs.Values.{value_is_bound, value_is_cost_bound, cost_rounds_up}
use Rattle.pesp_problem.proofs.net_laws.sharp_values_are_bounds.Goals as goal

pub returns-clause-bound : goal.returns-clause-bound
returns-clause-bound c = value_is_bound

pub returns-clause-cost : goal.returns-clause-cost
returns-clause-cost c = value_is_cost_bound

pub returns-clause-rounded : goal.returns-clause-rounded
returns-clause-rounded c = cost_rounds_up
