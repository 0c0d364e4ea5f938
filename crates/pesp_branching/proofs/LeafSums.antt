-- Sums over the leaves of a tree, where a leaf gives place to another tree, and where numbers fall.
use Rattle.std.proofs.Common.{◌≡◌, ℕ, ◌+◌, ◌<◌, ◌≤◌, List, [], ◌∷◌, ap, arith, subst, sym}
use Rattle.pesp_problem.specs.declared.cut.Cut.{Cut}
use Rattle.pesp_problem.specs.declared.cut.Side.{Side}
use Rattle.pesp_problem.specs.declared.cut.Side.TheVariants.{Low, High}
use Rattle.pesp_problem.specs.Nodes.{Node, low_part, high_part}
use Rattle.pesp_truth.specs.Trees.{Tree, Leaf, Ends, Branch}
use Rattle.pesp_truth.specs.Paths.{along}
use Rattle.pesp_truth.specs.Leaves.{IsLeafAt, put}
use Rattle.pesp_branching.specs.LeafSums.{leaf_sum}

pub put_sum : (f : Leaf → Node → ℕ) (tree : Tree) (path : List (Cut × Side)) (leaf : Leaf) (new : Tree)
    (node : Node) → IsLeafAt tree path leaf → leaf_sum f (put tree path new) node + f leaf (along node path)
    ≡ leaf_sum f tree node + leaf_sum f new (along node path)
put_sum f (Ends there) [] leaf new node h = let same = ap (λ (x : Leaf). f x node) h in omega (arith, same)
put_sum f (Ends there) (step ∷ path) leaf new node h = absurd h
put_sum f (Branch cut low high) [] leaf new node h = absurd h
put_sum f (Branch cut low high) ((c, Low) ∷ path) leaf new node h =
    rw (h.0) (let rest = put_sum f low path leaf new (low_part node cut) h.1 in omega (arith, rest))
put_sum f (Branch cut low high) ((c, High) ∷ path) leaf new node h =
    rw (h.0) (let rest = put_sum f high path leaf new (high_part node cut) h.1 in omega (arith, rest))

pub sum_no_more : (f g : Leaf → Node → ℕ) (tree : Tree) (node : Node)
    → ((leaf : Leaf) (at : Node) → f leaf at ≤ g leaf at) → leaf_sum f tree node ≤ leaf_sum g tree node
sum_no_more f g (Ends leaf) node h = h leaf node
sum_no_more f g (Branch cut low high) node h = let first = sum_no_more f g low (low_part node cut) h in
    let second = sum_no_more f g high (high_part node cut) h in omega (arith, first, second)

pub sum_less : (f g : Leaf → Node → ℕ) (tree : Tree) (path : List (Cut × Side)) (leaf : Leaf) (node : Node)
    → IsLeafAt tree path leaf → ((other : Leaf) (at : Node) → f other at ≤ g other at)
    → f leaf (along node path) < g leaf (along node path) → leaf_sum f tree node < leaf_sum g tree node
sum_less f g (Ends there) [] leaf node h k l = subst (λ (x : Leaf). f x node < g x node) (sym h) l
sum_less f g (Ends there) (step ∷ path) leaf node h k l = absurd h
sum_less f g (Branch cut low high) [] leaf node h k l = absurd h
sum_less f g (Branch cut low high) ((c, Low) ∷ path) leaf node h k l =
    let first = sum_less f g low path leaf (low_part node cut) h.1 k
    (subst (λ (x : Cut). f leaf (along (low_part node x) path) < g leaf (along (low_part node x) path)) h.0
    l) in
    let second = sum_no_more f g high (high_part node cut) k in
    omega (arith, first, second)
sum_less f g (Branch cut low high) ((c, High) ∷ path) leaf node h k l =
    let first = sum_no_more f g low (low_part node cut) k in
    let second = sum_less f g high path leaf (high_part node cut) h.1 k
    (subst (λ (x : Cut). f leaf (along (high_part node x) path) < g leaf (along (high_part node x) path)) h.0
    l) in
    omega (arith, first, second)
