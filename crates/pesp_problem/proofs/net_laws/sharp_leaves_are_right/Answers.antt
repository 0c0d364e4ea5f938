use Rattle.pesp_problem.proofs.Values.{bound_sums, bound_costs, shut_holds_none}
use Rattle.pesp_problem.proofs.net_laws.sharp_leaves_are_right.Goals as goal

pub returns-clause-sum : goal.returns-clause-sum
returns-clause-sum c = bound_sums

pub returns-clause-cost : goal.returns-clause-cost
returns-clause-cost c = bound_costs

pub returns-clause-none : goal.returns-clause-none
returns-clause-none c = shut_holds_none
