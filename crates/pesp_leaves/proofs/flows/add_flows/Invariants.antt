use Rattle.std.proofs.Common.{length}
use Rattle.pesp_leaves.proofs.Flowing.{AreMade}
use Rattle.pesp_leaves.proofs.flows.add_flows.Given as goal

abbrev pub invariant-loop-pair : goal.invariant-loop-pair
invariant-loop-pair g l = AreMade (length l.flows) l.table (g.P.Elements.elements l.fn.pairs) (g.P.Elements.elements l.left) l.flows

abbrev pub decreases-loop-pair : goal.decreases-loop-pair
decreases-loop-pair g l = length (g.P.Elements.elements l.left)
