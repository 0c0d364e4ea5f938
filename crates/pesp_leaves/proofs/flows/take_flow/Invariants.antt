use Rattle.pesp_problem.specs.Arcs.{arcs_of}
use Rattle.pesp_leaves.proofs.Taking.{AreTaken}
use Rattle.pesp_leaves.proofs.flows.take_flow.Given as goal

abbrev pub invariant-loop-net : goal.invariant-loop-net
invariant-loop-net l = AreTaken (arcs_of l.instance) l.slacks l.weighted l.counts l.initial.flows l.flows l.sum l.net-index
