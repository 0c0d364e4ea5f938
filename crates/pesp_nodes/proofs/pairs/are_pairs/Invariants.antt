use Rattle.pesp_nodes.proofs.Rising.{AreRisen}
use Rattle.pesp_nodes.proofs.pairs.are_pairs.Given as goal

abbrev pub invariant-loop-pair : goal.invariant-loop-pair
invariant-loop-pair l = AreRisen l.fn.cycles l.pairs l.last l.pair-index
