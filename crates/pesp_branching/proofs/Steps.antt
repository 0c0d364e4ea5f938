-- What is found at the parts of a node.
use Rattle.std.proofs.Common.{◌≡◌, ℕ, ◌-◌, List, [], ◌∷◌, map, refl, ap, ◌∙◌}
use Rattle.std.specs.Prelude.{ℤ, ◌≤ℤ◌, Option, Some, None, IsNone, IfSome, IsSomeAnd, true}
use Rattle.pesp_problem.specs.declared.pair.Pair.{Pair}
use Rattle.pesp_problem.specs.declared.cut.Cut.{Cut}
use Rattle.pesp_problem.specs.declared.cut.Side.TheVariants.{Low, High}
use Rattle.pesp_problem.specs.Nodes.{Node, part, leaf_value, offsets_left}
use Rattle.pesp_truth.specs.declared.tree.TreeLine.{TreeLine}
use Rattle.pesp_truth.specs.Trees.{Plain, EndLine, CutLine, Shut, ByPropagation, IsSoundLeaf, line_of}
use Rattle.pesp_truth.specs.Trees as trees
use Rattle.pesp_nodes.specs.Problems.{ProblemValue, problem_net}
use Rattle.pesp_bound.specs.declared.leaf.Leaf.{Leaf as Found}
use Rattle.pesp_bound.specs.declared.leaf.Leaf.TheVariants.{Gap, Nothing, Bound}
use Rattle.pesp_bound.specs.Leaves.{IsLeafOf, IsNoLess}
use Rattle.pesp_tree.specs.Events.{MayShut}
use Rattle.pesp_tree.proofs.Works.{pairs_exist}
use Rattle.pesp_branching.specs.Turns.{IsFoundAt}
use Rattle.pesp_branching.specs.Expanding.{leaf_that_is_found, IsLeafLine, IsStepOf, IsFoundLine, IsExpanded}

is_none : {A : Type 0} (o : Option A) → o ≡ None → IsNone o
is_none None e = refl
is_none (Some x) e = cc

none_is : {A : Type 0} (o : Option A) → IsNone o → o ≡ None
none_is None e = refl
none_is (Some x) e = cc

pub gap_leaf : (p : ProblemValue) (node : Node) (cycle : ℕ)
    → IsSoundLeaf (Plain None) (problem_net p) p.table (trees.Gap cycle) node → IsLeafOf p node (Gap cycle)
gap_leaf p node cycle l = (l.0, none_is (offsets_left (problem_net p) p.table node (cycle - 1)) l.1)

and_some : (o : Option ℤ) (P : ℤ → Type 0) (v : ℤ) → o ≡ Some v → P v → IsSomeAnd o P
and_some o P v e h = rw e h

found_leaf : (p : ProblemValue) (start : List Pair) (node : Node) (leaf : Found) → IsLeafOf p node leaf
    → IsNoLess p node start leaf → IsFoundAt p start node (leaf_that_is_found leaf)
found_leaf p start node (Gap cycle) l n = (l.0, (l.0, is_none (offsets_left (problem_net p) p.table node (cycle - 1)) l.1))
found_leaf p start node (Nothing pairs) l n = (l.1, (pairs_exist p.table pairs l.1, l.2))
found_leaf p start node (Bound pairs value) l n = (
  l.0,
  l.1,
  and_some (leaf_value (problem_net p) p.table node pairs true)
      (λ v. IfSome (leaf_value (problem_net p) p.table node start true) (λ w. w ≤ℤ v)) value l.2 n,
)

pub found_line : (p : ProblemValue) (start : List Pair) (node : Node) (leaf : Found) (line : TreeLine)
    → IsLeafOf p node leaf → IsNoLess p node start leaf → line_of line ≡ EndLine (leaf_that_is_found leaf)
    → IsFoundLine p start node line
found_line p start node leaf line l n e = record { leaf = leaf_that_is_found leaf; says = e; found = found_leaf p start node leaf l n }

-- a node that propagation shuts
pub shut_line : (p : ProblemValue) (start : List Pair) (node : Node) (line : TreeLine)
    → MayShut p node ByPropagation → line_of line ≡ EndLine (Shut ByPropagation) → IsFoundLine p start node line
shut_line p start node line h e = record { leaf = Shut ByPropagation; says = e; found = h }

pub expanded : (p : ProblemValue) (start : List Pair) (node : Node) (cut : Cut) (first low high : TreeLine)
    (lines : List TreeLine) → line_of first ≡ CutLine cut → IsFoundLine p start (part node cut Low) low
    → IsFoundLine p start (part node cut High) high → lines ≡ first ∷ low ∷ high ∷ []
    → IsExpanded p start node cut lines
expanded p start node cut first low high lines e l h same = record {
  low = l.leaf;
  high = h.leaf;
  step = ap (map line_of) same ∙ rw (e, l.says, h.says) refl;
  found_low = l.found;
  found_high = h.found;
}

pub step_of : (cut : Cut) (first low high : TreeLine) (lines : List TreeLine) → line_of first ≡ CutLine cut
    → IsLeafLine low → IsLeafLine high → lines ≡ first ∷ low ∷ high ∷ [] → IsStepOf cut lines
step_of cut first low high lines e l h same =
    record { low = l.leaf; high = h.leaf; step = ap (map line_of) same ∙ rw (e, l.says, h.says) refl }
