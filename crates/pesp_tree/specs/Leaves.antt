-- What a leaf under work says.
use Rattle.pesp_truth.specs.Trees.{Leaf, Bound, Shut, Nothing, Gap, ByPropagation}
use Rattle.pesp_tree.specs.declared.leaf.Leaf.{Leaf as KeptLeaf}
use Rattle.pesp_tree.specs.declared.leaf.Leaf.TheVariants.{Bound as KeptBound, Nothing as KeptNothing, Gap as KeptGap, Propagated as KeptPropagated}

-- the leaf of a tree that a leaf under work says
abbrev pub leaf_of : KeptLeaf → Leaf
leaf_of (KeptBound pairs) = Bound pairs
leaf_of (KeptNothing pairs) = Nothing pairs
leaf_of (KeptGap cycle) = Gap cycle
leaf_of KeptPropagated = Shut ByPropagation
