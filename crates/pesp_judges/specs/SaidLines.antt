-- A line of the tree as a text or a list says it.
use Rattle.std.specs.Prelude.{List}
use Rattle.pesp_problem.specs.declared.pair.Pair.{Pair}
use Rattle.pesp_truth.specs.Trees.{Line, EndLine, CutLine, Shut, ByPropagation}
use Rattle.pesp_judges.specs.declared.tree.SaidLine.{SaidLine}
use Rattle.pesp_judges.specs.declared.tree.SaidLine.TheVariants.{Branch, Leaf, Propagated}
use Rattle.pesp_judges.specs.LeafLines.{leaf_said, KeepsLeafLimits}
use Rattle.pesp_judges.specs.Lines.{IsSmallCut}

-- the line that is said
abbrev pub line_said : {P : Type 0} → (P → List Pair) → SaidLine P → Line
line_said elements (Branch cut) = CutLine cut
line_said elements (Leaf leaf) = EndLine (leaf_said elements leaf)
line_said elements Propagated = EndLine (Shut ByPropagation)

-- the numbers of the line are within their limits
abbrev pub KeepsSaidLimits : {P : Type 0} → (P → List Pair) → SaidLine P → Type 0
KeepsSaidLimits elements (Branch cut) = IsSmallCut cut
KeepsSaidLimits elements (Leaf leaf) = KeepsLeafLimits elements leaf
KeepsSaidLimits elements Propagated = Unit {0}
