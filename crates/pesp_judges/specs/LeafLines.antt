-- A leaf as a line says it, whose pairs are the elements of a list.
use Rattle.std.specs.Prelude.{List}
use Rattle.pesp_problem.specs.declared.pair.Pair.{Pair}
use Rattle.pesp_truth.specs.Trees.{Leaf, Bound, Nothing, Gap}
use Rattle.pesp_judges.specs.declared.leaf.LeafLine.{LeafLine}
use Rattle.pesp_judges.specs.declared.leaf.LeafLine.TheVariants.{Bound as SaysBound, Nothing as SaysNothing, Gap as SaysGap}
use Rattle.pesp_leaves.specs.Flows.{ArePairLimits}

-- the leaf that is said
abbrev pub leaf_said : {P : Type 0} → (P → List Pair) → LeafLine P → Leaf
leaf_said elements (SaysBound pairs) = Bound (elements pairs)
leaf_said elements (SaysNothing pairs) = Nothing (elements pairs)
leaf_said elements (SaysGap cycle) = Gap cycle

-- the numbers of the leaf are within their limits
abbrev pub KeepsLeafLimits : {P : Type 0} → (P → List Pair) → LeafLine P → Type 0
KeepsLeafLimits elements (SaysBound pairs) = ArePairLimits (elements pairs)
KeepsLeafLimits elements (SaysNothing pairs) = ArePairLimits (elements pairs)
KeepsLeafLimits elements (SaysGap cycle) = Unit {0}
