use Rattle.std.proofs.Common.{◌≡◌, length}
use Rattle.pesp_truth.specs.Named.{names_more}
use Rattle.pesp_leaves.proofs.pairs.names_more.Given as goal

abbrev pub invariant-loop-pair : goal.invariant-loop-pair
invariant-loop-pair g l = names_more l.fn.cycles (g.P.Elements.elements l.left) ≡ names_more l.fn.cycles (g.P.Elements.elements l.fn.pairs)

abbrev pub decreases-loop-pair : goal.decreases-loop-pair
decreases-loop-pair g l = length (g.P.Elements.elements l.left)
