-- A node has one leaf.
use Rattle.std.proofs.Common.{◌≡◌, ℕ, List, [], sym, ap, ◌∙◌}
use Rattle.std.specs.Prelude.{Option, Some, None}
use Rattle.pesp_problem.specs.declared.pair.Pair.{Pair}
use Rattle.pesp_truth.specs.Trees.{Leaf, Bound, pairs_of_leaf}
use Rattle.pesp_tree.specs.WorkTrees.{WorkTreeValue, leaf_at}

abbrev pairs_of : Option Leaf → List Pair
pairs_of (Some leaf) = pairs_of_leaf leaf
pairs_of None = []

-- a node has one bound leaf
pub one_leaf : (t : WorkTreeValue) (node : ℕ) (a b : List Pair) → leaf_at t node ≡ Some (Bound a) → leaf_at t node ≡ Some (Bound b) → a ≡ b
one_leaf t node a b e f = ap pairs_of (sym e ∙ f)
