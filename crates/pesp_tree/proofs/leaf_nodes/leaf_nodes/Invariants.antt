use Rattle.std.proofs.Common.{reverse}
use Rattle.pesp_tree.proofs.Ordering.{Noted}
use Rattle.pesp_tree.proofs.leaf_nodes.leaf_nodes.Given as goal

abbrev pub invariant-loop-node : goal.invariant-loop-node
invariant-loop-node l = Noted l.branchings l.nodes l.leaves.items l.left (reverse l.waiting.items)

abbrev pub decreases-loop-node : goal.decreases-loop-node
decreases-loop-node l = l.left
