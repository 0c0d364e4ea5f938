use Rattle.pesp_problem.proofs.Values.{value_is_no_bound}
use Rattle.pesp_problem.proofs.net_laws.unweighted_values_are_at_most_0.Goals as goal

pub returns : goal.returns
returns c = value_is_no_bound
