use Rattle.std.proofs.Common.{length}
use Rattle.pesp_leaves.proofs.Adding.{AreSummed}
use Rattle.pesp_leaves.proofs.lemmas.add_lemmas.Given as goal

abbrev pub invariant-loop-pair : goal.invariant-loop-pair
invariant-loop-pair g l = AreSummed l.others l.facts (g.P.Elements.elements l.fn.pairs) (g.P.Elements.elements l.left) l.initial.flows l.sum l.flows

abbrev pub decreases-loop-pair : goal.decreases-loop-pair
decreases-loop-pair g l = length (g.P.Elements.elements l.left)
