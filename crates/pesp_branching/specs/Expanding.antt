-- A cut with the leaves that are found on either side.
use Rattle.std.specs.Prelude.{◌≡◌, List}
use Rattle.pesp_problem.specs.declared.pair.Pair.{Pair}
use Rattle.pesp_problem.specs.declared.cut.Cut.{Cut}
use Rattle.pesp_problem.specs.declared.cut.Side.TheVariants.{Low, High}
use Rattle.pesp_problem.specs.Nodes.{Node, part}
use Rattle.pesp_truth.specs.declared.tree.TreeLine.{TreeLine}
use Rattle.pesp_truth.specs.Trees.{Leaf, EndLine, line_of}
use Rattle.pesp_truth.specs.Trees as trees
use Rattle.pesp_nodes.specs.Problems.{ProblemValue}
use Rattle.pesp_bound.specs.declared.leaf.Leaf.{Leaf as Found}
use Rattle.pesp_bound.specs.declared.leaf.Leaf.TheVariants.{Gap, Nothing, Bound}
use Rattle.pesp_branching.specs.Turns.{AreStep, IsFoundAt}

-- a leaf that was found as a leaf of a tree
abbrev pub leaf_that_is_found : Found → Leaf
leaf_that_is_found (Gap cycle) = trees.Gap cycle
leaf_that_is_found (Nothing pairs) = trees.Nothing pairs
leaf_that_is_found (Bound pairs value) = trees.Bound pairs

-- the line of a leaf
pub record IsLeafLine (line : TreeLine) : Type 0 where
  pub leaf : Leaf
  pub says : line_of line ≡ EndLine leaf

-- the lines of a cut with a leaf on either side
pub record IsStepOf (cut : Cut) (lines : List TreeLine) : Type 0 where
  pub low : Leaf
  pub high : Leaf
  pub step : AreStep lines cut low high

-- the line of a leaf that is found at a node for these pairs
pub record IsFoundLine (p : ProblemValue) (start : List Pair) (node : Node) (line : TreeLine) : Type 0 where
  pub leaf : Leaf
  pub says : line_of line ≡ EndLine leaf
  pub found : IsFoundAt p start node leaf

-- the lines of a cut with a leaf that is found on either side
pub record IsExpanded (p : ProblemValue) (start : List Pair) (node : Node) (cut : Cut) (lines : List TreeLine) : Type 0 where
  pub low : Leaf
  pub high : Leaf
  pub step : AreStep lines cut low high
  pub found_low : IsFoundAt p start (part node cut Low) low
  pub found_high : IsFoundAt p start (part node cut High) high
