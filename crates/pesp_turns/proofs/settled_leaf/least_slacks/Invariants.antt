use Rattle.pesp_turns.proofs.Closings.{AreLeastTo}
use Rattle.pesp_turns.proofs.settled_leaf.least_slacks.Given as goal

abbrev pub invariant-loop-row : goal.invariant-loop-row
invariant-loop-row l = AreLeastTo l.reduced l.node l.left.items l.row-index
