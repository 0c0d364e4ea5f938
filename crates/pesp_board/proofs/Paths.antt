-- Nodes along paths, and the cuts of the path to a leaf.
use Rattle.std.proofs.Common.{◌≡◌, ℕ, List, length, ◌∙◌, arith, subst}
use Rattle.std.specs.Prelude.{Some}
use Rattle.std.proofs.lemmas.List.{length-map}
use Rattle.pesp_problem.specs.declared.arc.Arc.{Arc}
use Rattle.pesp_problem.specs.declared.pair.Pair.{Pair}
use Rattle.pesp_problem.specs.declared.cut.Cut.{Cut}
use Rattle.pesp_problem.specs.declared.cut.Cut.TheVariants.{Slack, Offset}
use Rattle.pesp_problem.specs.declared.cut.Side.{Side}
use Rattle.pesp_problem.specs.Nodes.{Node, odijk_range, root_slacks, LeavesBoth}
use Rattle.pesp_truth.specs.Trees.{Leaf, Bound, CutExists}
use Rattle.pesp_network.specs.Networks.{KeepsNetLimits, arc_of_net}
use Rattle.pesp_nodes.specs.Problems.{ProblemValue, problem_net, IsSmallTable, IsNodeOf, IsCutOf, ArePairs}
use Rattle.pesp_tree.specs.WorkTrees.{WorkTreeValue, IsWhole, path_to, leaf_at}
use Rattle.pesp_tree.specs.Limits.{IsLineOf, KeepsTreeLimits}
use Rattle.pesp_tree.specs.States.{root_of, node_at}
use Rattle.pesp_tree.proofs.Ranges.{cut_keeps_limits}
use Rattle.pesp_tree.proofs.TreeLimits.{leaf_line, cuts_along}
use Rattle.pesp_board.specs.Giving.{AreCuts}

pub path_cuts : (p : ProblemValue) (t : WorkTreeValue) (node : ℕ) (leaf : Leaf) → IsWhole t
    → KeepsTreeLimits p t.tree → leaf_at t node ≡ Some leaf → AreCuts p (path_to t node)
path_cuts p t node leaf w k e = cuts_along (IsLineOf p) t.tree (path_to t node) leaf (w.stands node leaf e) k.lines

pub leaf_pairs : (p : ProblemValue) (t : WorkTreeValue) (node : ℕ) (pairs : List Pair) → IsWhole t
    → KeepsTreeLimits p t.tree → leaf_at t node ≡ Some (Bound pairs) → ArePairs (length p.table) pairs
leaf_pairs p t node pairs w k e = leaf_line (IsLineOf p) t.tree (path_to t node) (Bound pairs) (w.stands node (Bound pairs) e) k.lines

-- ---- the node that a path leads to

pub root_is_node : (p : ProblemValue) → IsNodeOf p (root_of p)
root_is_node p =
    let full : Arc → ℕ × ℕ = λ arc. (0, arc.span) in
    record {
      slacks = length-map (problem_net p).arcs full ∙ length-map p.network.rows arc_of_net;
      offsets = length-map p.table (odijk_range (problem_net p) (root_slacks (problem_net p)));
    }

-- what a cut of one node names exists for the others
pub cut_of_node : (p : ProblemValue) (node : Node) (cut : Cut) → IsNodeOf p node → IsCutOf (root_of p) cut → IsCutOf node cut
cut_of_node p node (Slack row k) h c = let root = root_is_node p in let here = h.slacks in
    let there = root.slacks in let most = c.0.1 in ((c.0.0, omega (arith, here, there, most)), c.1)
cut_of_node p node (Offset cycle k) h c = let root = root_is_node p in let here = h.offsets in
    let there = root.offsets in let most = c.0.1 in ((c.0.0, omega (arith, here, there, most)), c.1)

-- a cut of what exists that leaves both sides a value at the end of a path cuts every node
pub cut_at : (p : ProblemValue) (path : List (Cut × Side)) (there node : Node) (cut : Cut)
    → KeepsNetLimits p.network → IsSmallTable p.table → there ≡ node_at p path
    → CutExists (problem_net p) p.table cut × LeavesBoth there cut → IsNodeOf p node → IsCutOf node cut
cut_at p path there node cut limits small e both h =
    cut_of_node p node cut h (cut_keeps_limits p path cut limits small both.0
    (subst (λ (n : Node). LeavesBoth n cut) e both.1))
