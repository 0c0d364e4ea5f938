-- How many lines and pairs a tree has once another takes the place of a leaf.
use Rattle.std.proofs.Common.{◌≡◌, ◌+◌, List, length}
use Rattle.std.specs.Prelude.{sum_by}
use Rattle.pesp_problem.specs.declared.cut.Cut.{Cut}
use Rattle.pesp_problem.specs.declared.cut.Side.{Side}
use Rattle.pesp_truth.specs.Trees.{Tree, Leaf, EndLine, preorder}
use Rattle.pesp_truth.specs.Leaves.{IsLeafAt, put}
use Rattle.pesp_truth.proofs.Leaves.{lines_after_put, sums_after_put}
use Rattle.pesp_tree.specs.Limits.{pairs_in}

pub put_lines_add_up : (tree : Tree) (path : List (Cut × Side)) (leaf : Leaf) (new : Tree)
    → IsLeafAt tree path leaf → length (preorder (put tree path new)) + 1
    ≡ length (preorder tree) + length (preorder new)
put_lines_add_up = lines_after_put

pub put_pairs_add_up : (tree : Tree) (path : List (Cut × Side)) (leaf : Leaf) (new : Tree)
    → IsLeafAt tree path leaf → sum_by pairs_in (preorder (put tree path new)) + pairs_in (EndLine leaf)
    ≡ sum_by pairs_in (preorder tree) + sum_by pairs_in (preorder new)
put_pairs_add_up = sums_after_put pairs_in
