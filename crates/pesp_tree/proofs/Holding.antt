-- What holds of the lists of a tree under work, and after each change of them.
use Rattle.std.proofs.Common.{◌≡◌, ◌≢◌, ℕ, ◌+◌, ◌*◌, ◌/◌, max, ◌<◌, ◌≤◌, List, [], ◌∷◌, ◌++◌, length, get_or, set, map, refl, sym, ap, ◌∙◌, arith, subst}
use Rattle.std.specs.Prelude.{Option, Some, None, IsSome}
use Rattle.std.proofs.lemmas.List.{length-set, length-append}
use Rattle.std.proofs.lemmas.Int.{clamps}
use Rattle.pesp_problem.specs.declared.cut.Cut.{Cut}
use Rattle.pesp_problem.specs.declared.cut.Side.{Side}
use Rattle.pesp_truth.specs.Trees.{Leaf, Ends, Branch, preorder}
use Rattle.pesp_tree.specs.declared.leaf.Leaf.{Leaf as OwnLeaf}
use Rattle.pesp_tree.specs.declared.node.Branching.{Branching}
use Rattle.pesp_tree.specs.declared.node.Kept.{Kept}
use Rattle.pesp_tree.specs.declared.node.Kept.TheVariants.{Leaf as KeptLeaf, Branched}
use Rattle.pesp_truth.specs.Leaves.{IsLeafAt, put}
use Rattle.pesp_truth.proofs.Leaves.{lines_after_put}
use Rattle.pesp_tree.specs.Leaves.{leaf_of}
use Rattle.pesp_tree.specs.WorkTrees.{IsWhole, with_leaf, with_branch}
use Rattle.pesp_tree.specs.Numbered.{IsAt, path_in, branch_off, grown, kept_leaf, leaf_or_gap, leaf_in, tree_of, value_of, AreNodes, NodesAreNumbered, TreeListsAreKept, Stands, after_split}
use Rattle.pesp_tree.proofs.Numbered.{filled_at, filled_from, one_at}
use Rattle.pesp_tree.proofs.Changes.{grow-push, set_nodes, set_tree, split_nodes, split_tree}
use Rattle.pesp_tree.proofs.Paths.{below_push, grown_count}
use Rattle.pesp_tree.proofs.Standing.{not_none, is_some, some_of, in_range, map_set, map_split, length_leaves, stands_set, stands_split}

-- ---- what callers see of the lists

pub leaf_stands : (bs : List Branching) (leaves : List (Option Leaf)) (n : ℕ) → AreNodes bs leaves
    → get_or leaves n None ≢ None → IsLeafAt (tree_of bs leaves) (path_in (grown bs) n) (leaf_in leaves n)
leaf_stands bs leaves n nodes h = filled_at (grown bs).tree (leaf_in leaves) (path_in (grown bs) n) n
    (nodes.stands n (in_range leaves n h) h)

leaf_found : (bs : List Branching) (leaves : List (Option Leaf)) (path : List (Cut × Side)) (leaf : Leaf)
    → AreNodes bs leaves → IsLeafAt (tree_of bs leaves) path leaf
    → (n : ℕ) × (path_in (grown bs) n ≡ path) × (get_or leaves n None ≡ Some leaf)
leaf_found bs leaves path leaf nodes h =
    let at = filled_from (grown bs).tree (leaf_in leaves) path leaf h in
    let there = nodes.only path at.0 at.1 in
    (at.0, there.1, some_of (get_or leaves at.0 None) there.2 ∙ ap Some (at.2))

one_node : (bs : List Branching) (leaves : List (Option Leaf)) (m n : ℕ) → AreNodes bs leaves
    → get_or leaves m None ≢ None → get_or leaves n None ≢ None → path_in (grown bs) m ≡ path_in (grown bs) n
    → m ≡ n
one_node bs leaves m n nodes h k e = one_at (grown bs).tree (path_in (grown bs) n) m n
    (subst (λ path. IsAt (grown bs).tree path m) e (nodes.stands m (in_range leaves m h) h))
    (nodes.stands n (in_range leaves n k) k)

pub whole : (bs : List Branching) (kept : List Kept) (room : ℕ) → NodesAreNumbered bs kept → IsWhole (value_of bs kept room)
whole bs kept room a =
    let leaves = map kept_leaf kept in
    record {
      counted = a.nodes.count;
      lines = a.lines ∙ sym (length_leaves kept);
      within = omega (arith, a.within, length_leaves kept);
      stands = λ n leaf e. subst (λ x. IsLeafAt (tree_of bs leaves) (path_in (grown bs) n) x) (ap leaf_or_gap e)
          (leaf_stands bs leaves n a.nodes (is_some (get_or leaves n None) leaf e));
      found = λ path leaf h. leaf_found bs leaves path leaf a.nodes h;
      one = λ m n h k e. one_node bs leaves m n a.nodes (not_none (get_or leaves m None) h) (not_none (get_or leaves n None) k) e;
    }

pub count_is : (bs : List Branching) (kept : List Kept) → NodesAreNumbered bs kept → length kept ≡ 1 + 2 * length bs
count_is bs kept a = sym (length_leaves kept) ∙ sym (a.nodes.count) ∙ grown_count bs

pub few_branchings : (bs : List Branching) (kept : List Kept) → NodesAreNumbered bs kept → length bs < 1000000
few_branchings bs kept a = omega (arith, count_is bs kept a, a.within)

pub node_within : (bs : List Branching) (kept : List Kept) (n : ℕ) → IsSome (get_or (map kept_leaf kept) n None) → n < length kept
node_within bs kept n h = omega (
  arith,
  in_range (map kept_leaf kept) n
      (not_none (get_or (map kept_leaf kept) n None) h),
  length_leaves kept,
)

-- ---- another leaf at a node

new_is_leaf : (leaf : OwnLeaf) → kept_leaf (KeptLeaf leaf) ≢ None
new_is_leaf leaf = not_none (Some (leaf_of leaf)) refl

set_tree_is : (bs : List Branching) (kept : List Kept) (n : ℕ) (leaf : OwnLeaf) → NodesAreNumbered bs kept
    → get_or (map kept_leaf kept) n None ≢ None → tree_of bs (map kept_leaf (set kept n (KeptLeaf leaf)))
    ≡ put (tree_of bs (map kept_leaf kept)) (path_in (grown bs) n) (Ends (leaf_of leaf))
set_tree_is bs kept n leaf a h = ap (λ x. tree_of bs x) (map_set kept n (KeptLeaf leaf))
    ∙ set_tree bs (map kept_leaf kept) n (Some (leaf_of leaf)) a.nodes (in_range (map kept_leaf kept) n h) h

pub put_numbered : (bs : List Branching) (kept : List Kept) (n : ℕ) (leaf : OwnLeaf) → NodesAreNumbered bs kept
    → IsSome (get_or (map kept_leaf kept) n None) → NodesAreNumbered bs (set kept n (KeptLeaf leaf))
put_numbered bs kept n leaf a some =
    let leaves = map kept_leaf kept in
    let h : get_or leaves n None ≢ None = not_none (get_or leaves n None) some in
    let count = lines_after_put (tree_of bs leaves) (path_in (grown bs) n) (leaf_in leaves n) (Ends (leaf_of leaf))
    (leaf_stands bs leaves n a.nodes h) in
    let same = length-set kept n (KeptLeaf leaf) in
    record {
      nodes = subst (λ x. AreNodes bs x) (sym (map_set kept n (KeptLeaf leaf)))
          (set_nodes bs leaves n (Some (leaf_of leaf)) a.nodes (in_range leaves n h) h (new_is_leaf leaf));
      below = a.below;
      stands = stands_set bs kept n (KeptLeaf leaf) (grown bs).tree 0 h a.stands;
      lines = ap (λ t. length (preorder t)) (set_tree_is bs kept n leaf a h) ∙ omega (arith, count, a.lines, same);
      within = omega (arith, a.within, same);
    }

pub put_value : (bs : List Branching) (kept : List Kept) (room n : ℕ) (leaf : OwnLeaf) → NodesAreNumbered bs kept
    → IsSome (get_or (map kept_leaf kept) n None)
    → value_of bs (set kept n (KeptLeaf leaf)) room ≡ with_leaf (value_of bs kept room) n (leaf_of leaf)
put_value bs kept room n leaf a some =
    let tree = set_tree_is bs kept n leaf a (not_none (get_or (map kept_leaf kept) n None) some) in
    let leaves = map_set kept n (KeptLeaf leaf) in
    ap (λ x. record { tree = x; paths = (grown bs).paths; leaves = map kept_leaf (set kept n (KeptLeaf leaf)); room = room }) tree
    ∙ ap (λ x. record {
      tree = put (tree_of bs (map kept_leaf kept)) (path_in (grown bs) n) (Ends (leaf_of leaf));
      paths = (grown bs).paths;
      leaves = x;
      room = room;
    }) leaves

-- ---- a split

split_tree_is : (bs : List Branching) (kept : List Kept) (b : Branching) (low high : OwnLeaf) → NodesAreNumbered bs kept
    → get_or (map kept_leaf kept) b.node None ≢ None
    → tree_of (bs ++ b ∷ []) (map kept_leaf (after_split kept b.node (length bs) (KeptLeaf low) (KeptLeaf high)))
    ≡ put (tree_of bs (map kept_leaf kept)) (path_in (grown bs) b.node)
    (Branch b.cut (Ends (leaf_of low)) (Ends (leaf_of high)))
split_tree_is bs kept b low high a h =
    ap (λ x. tree_of (bs ++ b ∷ []) x) (map_split kept b.node (length bs) low high)
    ∙ split_tree bs (map kept_leaf kept) b (Some (leaf_of low)) (Some (leaf_of high)) a.nodes (in_range (map kept_leaf kept) b.node h) h

after_count : (kept : List Kept) (n place : ℕ) (low high : Kept) → length (after_split kept n place low high) ≡ length kept + 2
after_count kept n place low high = omega (
  arith,
  length-append (set kept n (Branched place)) (low ∷ high ∷ []),
  length-set kept n (Branched place),
)

pub split_numbered : (bs : List Branching) (kept : List Kept) (b : Branching) (low high : OwnLeaf)
    → NodesAreNumbered bs kept → IsSome (get_or (map kept_leaf kept) b.node None)
    → length (map kept_leaf kept) + 2 ≤ 1000000 → NodesAreNumbered (bs ++ b ∷ [])
    (after_split kept b.node (length bs) (KeptLeaf low) (KeptLeaf high))
split_numbered bs kept b low high a some room =
    let leaves = map kept_leaf kept in
    let h : get_or leaves b.node None ≢ None = not_none (get_or leaves b.node None) some in
    let new = after_split kept b.node (length bs) (KeptLeaf low) (KeptLeaf high) in
    let inside = node_within bs kept b.node some in
    let count = lines_after_put (tree_of bs leaves) (path_in (grown bs) b.node) (leaf_in leaves b.node)
    (Branch b.cut (Ends (leaf_of low)) (Ends (leaf_of high))) (leaf_stands bs leaves b.node a.nodes h) in
    let more = after_count kept b.node (length bs) (KeptLeaf low) (KeptLeaf high) in
    record {
      nodes = subst (λ x. AreNodes (bs ++ b ∷ []) x) (sym (map_split kept b.node (length bs) low high))
          (split_nodes bs leaves b (Some (leaf_of low)) (Some (leaf_of high)) a.nodes (in_range leaves b.node h) h
          (new_is_leaf low) (new_is_leaf high));
      below = below_push 1 bs b a.below (omega (arith, inside, count_is bs kept a));
      stands = subst (λ g. Stands (bs ++ b ∷ []) new g.tree 0) (sym (grow-push _ bs b))
          (stands_split bs kept b (length (grown bs).paths) (KeptLeaf low) (KeptLeaf high)
          (grown bs).tree 0 inside h (omega (arith, grown_count bs)) a.stands);
      lines = ap (λ t. length (preorder t)) (split_tree_is bs kept b low high a h) ∙ omega (arith, count, a.lines, more);
      within = omega (arith, room, more, length_leaves kept);
    }

pub split_value : (bs : List Branching) (kept : List Kept) (room : ℕ) (b : Branching) (low high : OwnLeaf)
    → NodesAreNumbered bs kept → IsSome (get_or (map kept_leaf kept) b.node None)
    → value_of (bs ++ b ∷ []) (after_split kept b.node (length bs) (KeptLeaf low) (KeptLeaf high)) room
    ≡ with_branch (value_of bs kept room) b.node b.cut (leaf_of low) (leaf_of high)
split_value bs kept room b low high a some =
    let new = after_split kept b.node (length bs) (KeptLeaf low) (KeptLeaf high) in
    let tree = split_tree_is bs kept b low high a (not_none (get_or (map kept_leaf kept) b.node None) some) in
    let after = put (tree_of bs (map kept_leaf kept)) (path_in (grown bs) b.node)
    (Branch b.cut (Ends (leaf_of low)) (Ends (leaf_of high))) in
    ap (λ x. record { tree = x; paths = (grown (bs ++ b ∷ [])).paths; leaves = map kept_leaf new; room = room }) tree
    ∙ ap (λ g. record { tree = after; paths = g.paths; leaves = map kept_leaf new; room = room }) (grow-push _ bs b)
    ∙ ap (λ x. record { tree = after; paths = (branch_off (grown bs) b).paths; leaves = x; room = room })
    (map_split kept b.node (length bs) low high)

-- ---- room

-- where there is room for two more nodes there is memory for one more branching
pub branching_fits : (bs : List Branching) (kept : List Kept) (room branchings nodes : ℕ)
    → TreeListsAreKept bs kept room branchings nodes → length (map kept_leaf kept) + 2 ≤ room → length bs < branchings
branching_fits bs kept room branchings nodes a h =
    let pairs = a.pairs in
    omega (arith, h, pairs, count_is bs kept a.numbered, length_leaves kept)

-- memory for more nodes and half as many branchings makes room for them
pub room_is_kept : (bs new_bs : List Branching) (kept new_kept : List Kept)
    (old more new branchings nodes more_branchings more_nodes : ℕ) → TreeListsAreKept bs kept old branchings nodes
    → new_bs ≡ bs → new_kept ≡ kept
    → branchings ≤ more_branchings → nodes ≤ more_nodes → length bs + (more / 2 + 1) ≤ more_branchings
    → length kept + more ≤ more_nodes → new ≡ max old (length kept + more)
    → TreeListsAreKept new_bs new_kept new more_branchings more_nodes
room_is_kept bs new_bs kept new_kept old more new branchings nodes more_branchings more_nodes a is_bs is_kept l m h k e =
    let pairs = a.pairs in
    let each = a.each in
    let count = count_is bs kept a.numbered in
    rw (is_bs, is_kept) (record {
      numbered = a.numbered;
      pairs = omega (arith, clamps, pairs, count, l, h, e);
      each = omega (arith, clamps, each, m, k, e);
    })
