-- How many pairs a tree has at most, and what is made of a leaf.
use Rattle.std.proofs.Common.{◌≡◌, ℕ, zero, suc, ◌+◌, ◌*◌, ◌<◌, ◌≤◌, ◌⊎◌, inl, inr, List, [], ◌∷◌, ◌++◌, length, get_or, ap, arith, subst, sym, ◌∙◌}
use Rattle.std.specs.Prelude.{All, sum_by}
use Rattle.std.proofs.lemmas.List.Elements.{All-head, All-tail}
use Rattle.std.proofs.lemmas.List.Sums.{sum_by-append, sum_by-cons}
use Rattle.std.proofs.Math.Nat.{add-mul}
use Rattle.pesp_problem.specs.declared.pair.Pair.{Pair}
use Rattle.pesp_problem.specs.declared.cut.Cut.{Cut}
use Rattle.pesp_problem.specs.declared.cut.Side.{Side}
use Rattle.pesp_problem.specs.Nodes.{Node}
use Rattle.pesp_network.specs.Networks.{KeepsNetLimits}
use Rattle.pesp_truth.specs.Trees.{Tree, Leaf, Reason, Ends, Branch, Bound, Shut, ByPairs, ByGap, ByPropagation, EndLine, CutLine, pairs_of_reason, preorder}
use Rattle.pesp_truth.specs.Leaves.{IsLeafAt, put}
use Rattle.pesp_nodes.specs.Problems.{ProblemValue, IsSmallTable, IsCutOf, ArePairs}
use Rattle.pesp_tree.specs.declared.work.Work.{Work}
use Rattle.pesp_tree.specs.declared.work.Work.TheVariants as works
use Rattle.pesp_tree.specs.Limits.{pairs_in, IsReasonOf, IsLineOf}
use Rattle.pesp_tree.specs.States.{State, root_of, node_at}
use Rattle.pesp_tree.specs.Reached.{IsOrderly}
use Rattle.pesp_tree.specs.Events.{Makes, MakesTooMuch}
use Rattle.pesp_tree.proofs.TreeLimits.{All-first, All-second, leaf_line, put_lines, made_lines, cuts_along}
use Rattle.pesp_branching.specs.Rooms.{branches, branch_lines}
use Rattle.pesp_branching.proofs.Branches.{put_branches, lines_in_all, as_lines}
use Rattle.pesp_branching.specs.Turns.{splits_of}

-- ---- pairs of a leaf

above_place : (pairs : List Pair) (n i : ℕ) (d : Pair) → ArePairs n pairs → i < length pairs → i + 1 ≤ (get_or pairs i d).cycle
above_place pairs n zero d h l = let first = (h.each 0 d l).names in omega (arith, first)
above_place pairs n (suc i) d h l = let before = above_place pairs n i d h (omega arith) in
    let next = h.rise i (suc i) d (omega arith) l in omega (arith, before, next)

few_pairs : (pairs : List Pair) (n : ℕ) → ArePairs n pairs → length pairs ≤ n
few_pairs [] n h = omega arith
few_pairs (pair ∷ pairs) n h =
    let last = above_place (pair ∷ pairs) n (length pairs) pair h (omega arith) in
    let named = (h.each (length pairs) pair (omega arith)).names in
    omega (arith, last, named)

reason_pairs : (p : ProblemValue) (reason : Reason) → IsReasonOf p reason → length (pairs_of_reason reason) ≤ length p.table
reason_pairs p (ByPairs pairs) h = few_pairs pairs (length p.table) h
reason_pairs p (ByGap cycle) h = omega arith
reason_pairs p ByPropagation h = omega arith

line_pairs : (p : ProblemValue) (leaf : Leaf) → IsLineOf p (EndLine leaf) → pairs_in (EndLine leaf) ≤ length p.table
line_pairs p (Bound pairs) h = few_pairs pairs (length p.table) h
line_pairs p (Shut reason) h = reason_pairs p reason h

tree_pairs : (p : ProblemValue) (tree : Tree) → All (IsLineOf p) (preorder tree)
    → sum_by pairs_in (preorder tree) ≤ (branches tree + 1) * length p.table
tree_pairs p (Ends leaf) h =
    let one = sum_by-cons pairs_in (EndLine leaf) [] in
    let few = line_pairs p leaf (All-head (IsLineOf p) (EndLine leaf) [] h) in
    one_leaf (length p.table) (pairs_in (EndLine leaf)) (sum_by pairs_in (preorder (Ends leaf))) few (one ∙ omega arith)
  where
    one_leaf : (n a s : ℕ) → a ≤ n → s ≡ a → s ≤ (0 + 1) * n
    one_leaf n a s h e = omega (arith, h, e)
tree_pairs p (Branch cut low high) h =
    let rest = All-tail (IsLineOf p) (CutLine cut) (preorder low ++ preorder high) h in
    let first = tree_pairs p low (All-first (IsLineOf p) (preorder low) (preorder high) rest) in
    let second = tree_pairs p high (All-second (IsLineOf p) (preorder low) (preorder high) rest) in
    let whole = sum_by-cons pairs_in (CutLine cut) (preorder low ++ preorder high) in
    let apart = sum_by-append pairs_in (preorder low) (preorder high) in
    let product = add-mul (branches low + 1) (branches high + 1) (length p.table) in
    let sum : (branches low + 1) + (branches high + 1) ≡ suc (branches low + branches high) + 1 = omega arith in
    omega (arith, first, second, whole, apart, product, ap (λ (k : ℕ). k * length p.table) sum)

-- ---- what works make

made_branches : (p : ProblemValue) (node : Node) (old : List Pair) (work : Work) (new : Tree)
    → Makes p node old work new → branches new ≡ splits_of work
made_branches p node old (works.Leaf pairs) new m = ap branches m.2
made_branches p node old (works.Nothing pairs) new m = ap branches m.1
made_branches p node old (works.Gap cycle) new m = ap branches m.1
made_branches p node old works.Propagated new m = ap branches m.1
made_branches p node old (works.Split cut) new m = ap branches m.tree
made_branches p node old (works.Tree lines) new m = sym (as_lines new) ∙ ap branch_lines m.0

-- ---- too much

many : (lines pairs most : ℕ) → lines ≤ 1000000 → (((lines ≤ 1000000) × (pairs ≤ 20000000)) → ⊥) → pairs ≤ most → 20000000 < most
many lines pairs most h k l = by_order (cases_le pairs 20000000)
  where
    cases_le : (a b : ℕ) → (a ≤ b) ⊎ (b < a)
    cases_le a b = grind arith

    by_order : (pairs ≤ 20000000) ⊎ (20000000 < pairs) → 20000000 < most
    by_order (inl few) = absurd (k (h, few))
    by_order (inr more) = omega (arith, more, l)

pub large_has_many : (p : ProblemValue) (state : State) (number used : ℕ) (work : Work) → KeepsNetLimits p.network
    → IsSmallTable p.table → IsOrderly p state → branches state.tree ≡ used → used + splits_of work ≤ 400000
    → MakesTooMuch p state number work → 20000000 < (used + splits_of work + 1) * length p.table
large_has_many p state number used work limits small o count few m =
    let old = leaf_line (IsLineOf p) state.tree m.path (Bound m.pairs) m.leaf.1 o.limits.lines in
    let part = made_lines p m.path m.pairs work m.part limits small old m.makes in
    let new = put state.tree m.path m.part in
    let lines = put_lines (IsLineOf p) state.tree m.path m.part o.limits.lines part in
    let pairs = tree_pairs p new lines in
    let put_count = put_branches state.tree m.path (Bound m.pairs) m.part m.leaf.1 in
    let made = made_branches p (node_at p m.path) m.pairs work m.part m.makes in
    let all : branches new ≡ used + splits_of work = omega (arith, put_count, made, count) in
    let long : length (preorder new) ≤ 1000000 = omega (arith, lines_in_all new, all, few) in
    many (length (preorder new)) (sum_by pairs_in (preorder new))
    ((used + splits_of work + 1) * length p.table) long (λ h. m.large (record { lines = h.0; pairs = h.1 }))
    (subst (λ (k : ℕ). sum_by pairs_in (preorder new) ≤ (k + 1) * length p.table) all pairs)

-- ---- paths

pub path_cuts : (p : ProblemValue) (state : State) (path : List (Cut × Side)) (leaf : Leaf) → IsOrderly p state
    → IsLeafAt state.tree path leaf → All (λ (step : Cut × Side). IsCutOf (root_of p) step.0) path
path_cuts p state path leaf o h = cuts_along (IsLineOf p) state.tree path leaf h o.limits.lines

pub leaf_pairs : (p : ProblemValue) (state : State) (path : List (Cut × Side)) (pairs : List Pair)
    → IsOrderly p state → IsLeafAt state.tree path (Bound pairs) → ArePairs (length p.table) pairs
leaf_pairs p state path pairs o h = leaf_line (IsLineOf p) state.tree path (Bound pairs) h o.limits.lines
