use Rattle.pesp_nodes.proofs.Keeping.{arcs_small}
use Rattle.pesp_nodes.proofs.problem.Problem.arcs.Goals as goal

pub returns-clause-limits : goal.returns-clause-limits
returns-clause-limits c = rw c.arcs.ensures.arcs (arcs_small c.self.inside.network c.arcs.ensures.limits)
