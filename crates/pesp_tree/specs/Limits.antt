-- The limits of a board's tree, which are those of a certificate's.
use Rattle.std.specs.Prelude.{ℕ, ◌≤◌, length, All, sum_by}
use Rattle.pesp_problem.specs.declared.limits.TheConstants.{MOST_LINES, MOST_PAIRS}
use Rattle.pesp_problem.specs.Walks.{Names}
use Rattle.pesp_truth.specs.Trees.{Tree, Line, EndLine, CutLine, Bound, Shut, Reason, ByPairs, ByGap, ByPropagation, pairs_of_leaf, preorder}
use Rattle.pesp_nodes.specs.Problems.{ProblemValue, IsCutOf, ArePairs}
use Rattle.pesp_tree.specs.States.{root_of}

-- how many pairs a line of a tree has
abbrev pub pairs_in : Line → ℕ
pairs_in (EndLine leaf) = length (pairs_of_leaf leaf)
pairs_in (CutLine cut) = 0

-- at most 1000000 lines, with at most 20000000 pairs in all
pub record IsSmallTree (tree : Tree) : Type 0 where
  pub lines : length (preorder tree) ≤ MOST_LINES
  pub pairs : sum_by pairs_in (preorder tree) ≤ MOST_PAIRS

-- the pairs of a reason rise and keep their limits, and what it names exists
abbrev pub IsReasonOf : ProblemValue → Reason → Type 0
IsReasonOf p (ByPairs pairs) = ArePairs (length p.table) pairs
IsReasonOf p (ByGap cycle) = Names (length p.table) cycle
IsReasonOf p ByPropagation = Unit {0}

-- the pairs rise and keep their limits, and what the line names exists and keeps its limit
abbrev pub IsLineOf : ProblemValue → Line → Type 0
IsLineOf p (EndLine (Bound pairs)) = ArePairs (length p.table) pairs
IsLineOf p (EndLine (Shut reason)) = IsReasonOf p reason
IsLineOf p (CutLine cut) = IsCutOf (root_of p) cut

-- a tree that a certificate can hold
pub record KeepsTreeLimits (p : ProblemValue) (tree : Tree) : Type 0 where
  pub small : IsSmallTree tree
  pub lines : All (IsLineOf p) (preorder tree)
