-- A line of the tree that a text says.
use Rattle.std.specs.Prelude.{List}
use Rattle.pesp_problem.specs.declared.pair.Pair.{Pair}
use Rattle.pesp_problem.specs.declared.cut.Cut.TheVariants.{Slack, Offset}
use Rattle.pesp_truth.specs.declared.tree.TreeLine.{TreeLine}
use Rattle.pesp_truth.specs.declared.tree.TreeLine.TheVariants as lines
use Rattle.pesp_cert_items.specs.Lent.{pairs_left_in}
use Rattle.pesp_judges.specs.declared.leaf.LeafLine.TheVariants.{Bound, Nothing, Gap}
use Rattle.pesp_judges.specs.declared.tree.SaidLine.{SaidLine}
use Rattle.pesp_judges.specs.declared.tree.SaidLine.TheVariants.{Branch, Leaf, Propagated}
use Rattle.pesp_check.specs.declared.elements.PairsLeft.{PairsLeft}

-- the pairs that are still to come
abbrev pub pairs_of : PairsLeft → List Pair
pairs_of pairs = pairs_left_in pairs.0

-- the line of the tree, with its pairs as a list
abbrev pub tree_line : {P : Type 0} → (P → List Pair) → SaidLine P → TreeLine
tree_line elements (Branch (Slack row k)) = lines.Slack row k
tree_line elements (Branch (Offset cycle k)) = lines.Offset cycle k
tree_line elements (Leaf (Bound pairs)) = lines.Bound (elements pairs)
tree_line elements (Leaf (Nothing pairs)) = lines.Nothing (elements pairs)
tree_line elements (Leaf (Gap cycle)) = lines.Gap cycle
tree_line elements Propagated = lines.Propagated
