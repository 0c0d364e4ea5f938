use Rattle.pesp_tree.proofs.Tightening.{adopted_bound, adopted_cost}
use Rattle.pesp_tree.proofs.machine_laws.adopted_bounds_are_kept.Goals as goal

pub returns-clause-bound : goal.returns-clause-bound
returns-clause-bound c = adopted_bound

pub returns-clause-cost : goal.returns-clause-cost
returns-clause-cost c = adopted_cost
