use Rattle.std.proofs.Common.{◌-◌, length, map, reverse}
use Rattle.pesp_truth.specs.Trees.{line_of}
use Rattle.pesp_tree.proofs.Walking.{Walked}
use Rattle.pesp_tree.proofs.preorder.lines_of.Given as goal

abbrev pub invariant-loop-node : goal.invariant-loop-node
invariant-loop-node l = Walked l.branchings l.nodes (map line_of l.lines.items) (reverse l.waiting.items)

abbrev pub decreases-loop-node : goal.decreases-loop-node
decreases-loop-node l = length l.nodes - length (map line_of l.lines.items)
