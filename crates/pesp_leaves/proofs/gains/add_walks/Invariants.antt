use Rattle.std.proofs.Common.{length}
use Rattle.pesp_problem.specs.Arcs.{net_of}
use Rattle.pesp_leaves.proofs.Summing.{AreSummed}
use Rattle.pesp_leaves.proofs.gains.add_walks.Given as goal

abbrev pub invariant-loop-pair : goal.invariant-loop-pair
invariant-loop-pair g l = AreSummed (net_of l.checker.instance.now) l.slacks
    (length l.checker.table.now) l.shown.marks.now.walks (g.P.Elements.elements l.fn.pairs)
    (g.P.Elements.elements l.left) l.gains l.rates

abbrev pub decreases-loop-pair : goal.decreases-loop-pair
decreases-loop-pair g l = length (g.P.Elements.elements l.left)
