use Rattle.pesp_problem.proofs.Nodes.{value_is_bound, value_is_cost_bound, value_is_no_bound}
use Rattle.pesp_problem.proofs.laws.leaf_values_are_bounds.Goals as goal

pub returns-clause-bound : goal.returns-clause-bound
returns-clause-bound c = value_is_bound

pub returns-clause-cost : goal.returns-clause-cost
returns-clause-cost c = value_is_cost_bound

pub returns-clause-none : goal.returns-clause-none
returns-clause-none c = value_is_no_bound
