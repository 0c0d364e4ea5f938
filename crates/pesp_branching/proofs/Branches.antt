-- The branches of a tree as lines, and where a leaf gives place to another tree.
use Rattle.std.proofs.Common.{◌≡◌, ◌+◌, ◌*◌, List, [], ◌∷◌, ◌++◌, length, refl, arith, subst, length-append}
use Rattle.pesp_problem.specs.declared.row.SignedRow.{SignedRow}
use Rattle.pesp_problem.specs.declared.cut.Cut.{Cut}
use Rattle.pesp_problem.specs.declared.cut.Side.{Side}
use Rattle.pesp_problem.specs.declared.cut.Side.TheVariants.{Low, High}
use Rattle.pesp_problem.specs.Arcs.{Net}
use Rattle.pesp_problem.specs.Nodes.{Node, low_part, high_part}
use Rattle.pesp_truth.specs.Trees.{Tree, Leaf, Line, Ends, Branch, EndLine, CutLine, preorder}
use Rattle.pesp_truth.specs.Paths.{along}
use Rattle.pesp_truth.specs.Leaves.{IsLeafAt, put}
use Rattle.pesp_branching.specs.Rooms.{BranchesLeaveBoth, branches, branch_lines}

lines-append : (xs ys : List Line) → branch_lines (xs ++ ys) ≡ branch_lines xs + branch_lines ys
lines-append [] ys = omega arith
lines-append (EndLine leaf ∷ xs) ys = lines-append xs ys
lines-append (CutLine cut ∷ xs) ys = omega (arith, lines-append xs ys)

pub as_lines : (tree : Tree) → branch_lines (preorder tree) ≡ branches tree
as_lines (Ends leaf) = refl
as_lines (Branch cut low high) = omega (arith, lines-append (preorder low) (preorder high), as_lines low, as_lines high)

pub lines_in_all : (tree : Tree) → length (preorder tree) ≡ 2 * branches tree + 1
lines_in_all (Ends leaf) = refl
lines_in_all (Branch cut low high) = omega (arith, length-append (preorder low) (preorder high), lines_in_all low, lines_in_all high)

pub put_branches : (tree : Tree) (path : List (Cut × Side)) (leaf : Leaf) (new : Tree) → IsLeafAt tree path leaf
    → branches (put tree path new) ≡ branches tree + branches new
put_branches (Ends other) [] leaf new h = omega arith
put_branches (Ends other) (step ∷ path) leaf new h = absurd h
put_branches (Branch cut low high) [] leaf new h = absurd h
put_branches (Branch cut low high) ((c, Low) ∷ path) leaf new h = omega (arith, put_branches low path leaf new h.1)
put_branches (Branch cut low high) ((c, High) ∷ path) leaf new h = omega (arith, put_branches high path leaf new h.1)

pub put_leaves_both : (n : Net) (table : List (List SignedRow)) (tree : Tree) (path : List (Cut × Side))
    (leaf : Leaf) (new : Tree) (node : Node) → IsLeafAt tree path leaf → BranchesLeaveBoth n table tree node
    → BranchesLeaveBoth n table new (along node path) → BranchesLeaveBoth n table (put tree path new) node
put_leaves_both n table (Ends other) [] leaf new node h b k = k
put_leaves_both n table (Ends other) (step ∷ path) leaf new node h b k = absurd h
put_leaves_both n table (Branch cut low high) [] leaf new node h b k = absurd h
put_leaves_both n table (Branch cut low high) ((c, Low) ∷ path) leaf new node h b k = (
  b.0,
  b.1,
  put_leaves_both n table low path leaf new (low_part node cut) h.1 b.2
      (subst (λ x. BranchesLeaveBoth n table new (along (low_part node x) path)) h.0 k),
  b.3,
)
put_leaves_both n table (Branch cut low high) ((c, High) ∷ path) leaf new node h b k = (
  b.0,
  b.1,
  b.2,
  put_leaves_both n table high path leaf new (high_part node cut) h.1 b.3
      (subst (λ x. BranchesLeaveBoth n table new (along (high_part node x) path)) h.0 k),
)
