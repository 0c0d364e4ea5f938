use Rattle.std.proofs.Common.{length}
use Rattle.pesp_problem.specs.Arcs.{arcs_of}
use Rattle.pesp_leaves.proofs.Taking.{AreLeft}
use Rattle.pesp_leaves.proofs.flows.take_flows.Given as goal

abbrev pub invariant-loop-pair : goal.invariant-loop-pair
invariant-loop-pair g l = AreLeft (arcs_of l.instance) l.slacks l.weighted l.table
    (g.P.Elements.elements l.left) l.initial.flows l.flows l.sum

abbrev pub decreases-loop-pair : goal.decreases-loop-pair
decreases-loop-pair g l = length (g.P.Elements.elements l.left)
