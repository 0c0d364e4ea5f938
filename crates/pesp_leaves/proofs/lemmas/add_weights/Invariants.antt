use Rattle.pesp_leaves.proofs.Adding.{AreAdded}
use Rattle.pesp_leaves.proofs.lemmas.add_weights.Given as goal

abbrev pub invariant-loop-pair : goal.invariant-loop-pair
invariant-loop-pair l = AreAdded l.weights l.fn.mult l.initial.flows l.flows l.pair-index
