-- A board on which one leaf after the other is lent and given back: how far its tree has come, and how many numbers are spent.
use Rattle.std.specs.Prelude.{◌≡◌, ℕ, ◌+◌, ◌*◌, ◌≤◌, List, [], ◌∷◌, length, map, ℤ, pos, ◌≤ℤ◌, int_lt, Option, Some, None, IfSome, IsSomeAnd, Bool, true, false, if◌then◌else◌}
use Rattle.pesp_problem.specs.declared.row.SignedRow.{SignedRow}
use Rattle.pesp_problem.specs.declared.cut.Cut.{Cut}
use Rattle.pesp_problem.specs.declared.pair.Pair.{Pair}
use Rattle.pesp_problem.specs.Arcs.{Net}
use Rattle.pesp_problem.specs.Nodes.{Node, root, leaf_value}
use Rattle.pesp_truth.specs.Trees.{Tree, Leaf, Bound, Shut, EndLine, CutLine, preorder, line_of}
use Rattle.pesp_truth.specs.declared.tree.TreeLine.{TreeLine}
use Rattle.pesp_nodes.specs.Problems.{ProblemValue, problem_net, ArePairs}
use Rattle.pesp_tree.specs.States.{State, IsLentNumber, root_of, best_cost}
use Rattle.pesp_tree.specs.Events.{MayShut}
use Rattle.pesp_tree.specs.Reached.{IsOrderly}
use Rattle.pesp_branching.specs.Rooms.{BranchesLeaveBoth, branches, branch_lines}
use Rattle.pesp_tree.specs.declared.work.Work.{Work}
use Rattle.pesp_tree.specs.declared.work.Work.TheVariants as works
use Rattle.pesp_truth.specs.declared.answer.Answer.{Answer}
use Rattle.pesp_truth.specs.declared.answer.Answer.TheVariants.{Optimal, Infeasible, Bounded}
use Rattle.pesp_truth.specs.Certificates.{Content, lines_of}
use Rattle.pesp_branching.specs.LeafSums.{leaf_sum}
use Rattle.pesp_branching.specs.Settled.{HaveOffsetsLeft}

-- there is no best cost, or there is a value and it is below that cost
abbrev pub is_below : Option ℤ → Option ℕ → Bool
is_below value None = true
is_below None (Some c) = false
is_below (Some v) (Some c) = int_lt v (pos c)

-- 1 for a bound leaf whose value is below the best cost, 0 for another leaf
abbrev pub counts_open : Net → List (List SignedRow) → Option ℕ → Leaf → Node → ℕ
counts_open n table best (Bound pairs) node = if is_below (leaf_value n table node pairs true) best then 1 else 0
counts_open n table best (Shut reason) node = 0

-- how many bound leaves have a value below the best cost
abbrev pub open_leaves : ProblemValue → State → ℕ
open_leaves p state = leaf_sum (counts_open (problem_net p) p.table (best_cost p state)) state.tree (root_of p)

-- no number is lent; the tree has so many branches, each of which cuts a range that counts and leaves both of its parts a value;
-- and for each number that is spent the tree grew, or a leaf was closed
pub record IsWorked (p : ProblemValue) (used : ℕ) (state : State) : Type 0 where
  pub orderly : IsOrderly p state
  pub unlent : (number : ℕ) → IsLentNumber state number → ⊥
  pub both : BranchesLeaveBoth (problem_net p) p.table state.tree (root_of p)
  pub count : branches state.tree ≡ used
  pub numbers : length state.numbers + open_leaves p state ≤ 2 * used + 2

-- the lines are a cut with a leaf on either side
abbrev pub AreStep : List TreeLine → Cut → Leaf → Leaf → Type 0
AreStep lines cut low high = map line_of lines ≡ CutLine cut ∷ EndLine low ∷ EndLine high ∷ []

-- a leaf that was found at a part of a node, for pairs that a leaf has at the node
abbrev pub IsFoundAt : ProblemValue → List Pair → Node → Leaf → Type 0
IsFoundAt p start node (Bound pairs) = HaveOffsetsLeft (problem_net p) p.table node × ArePairs (length p.table) pairs
    × IsSomeAnd (leaf_value (problem_net p) p.table node pairs true)
    (λ v. IfSome (leaf_value (problem_net p) p.table node start true) (λ w. w ≤ℤ v))
IsFoundAt p start node (Shut reason) = MayShut p node reason

-- how many branches a work adds
abbrev pub splits_of : Work → ℕ
splits_of (works.Leaf pairs) = 0
splits_of (works.Nothing pairs) = 0
splits_of (works.Gap cycle) = 0
splits_of works.Propagated = 0
splits_of (works.Split cut) = 1
splits_of (works.Tree lines) = branch_lines (map line_of lines.items)

-- an answer that leaves something to be found
abbrev pub IsOpenAnswer : Answer → Type 0
IsOpenAnswer (Optimal c) = ⊥
IsOpenAnswer Infeasible = ⊥
IsOpenAnswer (Bounded l cost) = Unit {0}

-- the tree of a certificate: so many branch lines, and each branch cuts a range that counts and leaves both of its parts a value
pub record HasBranches (n : Net) (content : Content) (used : ℕ) : Type 0 where
  pub lines : branch_lines (lines_of content) ≡ used
  pub tree : Tree
  pub preorder_is : preorder tree ≡ lines_of content
  pub both : BranchesLeaveBoth n content.cycles tree (root n content.cycles)
