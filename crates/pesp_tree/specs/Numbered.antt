-- Trees whose leaves are numbers, grown a branching at a time: what the lists that are kept mean.
use Rattle.std.specs.Prelude.{◌≡◌, ◌≢◌, ◌<◌, ◌≤◌, ◌%◌, ℕ, ◌+◌, ◌*◌, List, [], ◌∷◌, ◌++◌, length, map, slice_index_or, slice_set, if◌then◌else◌, ◌==◌, Option, Some, None}
use Rattle.pesp_problem.specs.declared.limits.TheConstants.{MOST_LINES}
use Rattle.pesp_problem.specs.declared.cut.Cut.{Cut}
use Rattle.pesp_problem.specs.declared.cut.Cut.TheVariants.{Slack}
use Rattle.pesp_problem.specs.declared.cut.Side.{Side}
use Rattle.pesp_problem.specs.declared.cut.Side.TheVariants.{Low, High}
use Rattle.pesp_truth.specs.Trees.{Tree, Leaf, Ends, Branch, Gap, preorder}
use Rattle.pesp_tree.specs.declared.leaf.Leaf.TheVariants.{Gap as GapLeaf}
use Rattle.pesp_tree.specs.declared.node.Branching.{Branching}
use Rattle.pesp_tree.specs.declared.node.Kept.{Kept}
use Rattle.pesp_tree.specs.declared.node.Kept.TheVariants.{Leaf as KeptLeaf, Branched}
use Rattle.pesp_tree.specs.Leaves.{leaf_of}
use Rattle.pesp_tree.specs.WorkTrees.{WorkTreeValue}

-- a tree with numbers for its leaves
pub data Numbered : Type 0 where
  Number : ℕ → Numbered
  Cuts : Cut → Numbered → Numbered → Numbered

-- the leaf n becomes a branch with the leaves k and k + 1
abbrev pub split : ℕ → Cut → ℕ → Numbered → Numbered
split n cut k (Number m) = if m == n then Cuts cut (Number k) (Number (k + 1)) else Number m
split n cut k (Cuts c low high) = Cuts c (split n cut k low) (split n cut k high)

-- the tree with a leaf for each number
abbrev pub fill : Numbered → (ℕ → Leaf) → Tree
fill (Number n) leaf = Ends (leaf n)
fill (Cuts cut low high) leaf = Branch cut (fill low leaf) (fill high leaf)

-- the path leads to the leaf of this number
abbrev pub IsAt : Numbered → List (Cut × Side) → ℕ → Type 0
IsAt (Number m) [] n = m ≡ n
IsAt (Number m) (step ∷ path) n = ⊥
IsAt (Cuts cut low high) [] n = ⊥
IsAt (Cuts cut low high) ((c, Low) ∷ path) n = (c ≡ cut) × IsAt low path n
IsAt (Cuts cut low high) ((c, High) ∷ path) n = (c ≡ cut) × IsAt high path n

-- a tree with the paths to its nodes by their numbers, those that have become branches too
pub record Growth : Type 0 where
  pub tree : Numbered
  pub paths : List (List (Cut × Side))

-- the path to the node of this number
abbrev pub path_in : Growth → ℕ → List (Cut × Side)
path_in growth n = slice_index_or growth.paths n []

-- a leaf becomes a branch, whose two leaves take the next numbers
abbrev pub branch_off : Growth → Branching → Growth
branch_off growth b = record {
  tree = split b.node b.cut (length growth.paths) growth.tree;
  paths = growth.paths ++ (path_in growth b.node ++ (b.cut, Low) ∷ []) ∷ (path_in growth b.node ++ (b.cut, High) ∷ []) ∷ [];
}

-- one branching after the other
abbrev pub grow : Growth → List Branching → Growth
grow growth [] = growth
grow growth (b ∷ bs) = grow (branch_off growth b) bs

-- the growth of one leaf by these branchings
abbrev pub grown : List Branching → Growth
grown bs = grow (record { tree = Number 0; paths = [] ∷ [] }) bs

-- ---- what the lists mean

-- the leaf that is kept of a node, none of a branch
abbrev pub kept_leaf : Kept → Option Leaf
kept_leaf (KeptLeaf leaf) = Some (leaf_of leaf)
kept_leaf (Branched place) = None

-- a branch is read as a gap that stands nowhere
abbrev pub leaf_or_gap : Option Leaf → Leaf
leaf_or_gap (Some leaf) = leaf
leaf_or_gap None = Gap 0

-- the leaf of the node of this number
abbrev pub leaf_in : List (Option Leaf) → ℕ → Leaf
leaf_in leaves n = leaf_or_gap (slice_index_or leaves n None)

-- the tree that these branchings make, with these leaves
abbrev pub tree_of : List Branching → List (Option Leaf) → Tree
tree_of bs leaves = fill (grown bs).tree (leaf_in leaves)

-- the tree under work that is kept by these branchings and nodes, with room for so many nodes
abbrev pub value_of : List Branching → List Kept → ℕ → WorkTreeValue
value_of bs kept room = record {
  tree = tree_of bs (map kept_leaf kept);
  paths = (grown bs).paths;
  leaves = map kept_leaf kept;
  room = room;
}

-- ---- what holds of the lists

-- a leaf that isn't branched stands where its path leads, and no other does
pub record AreNodes (bs : List Branching) (leaves : List (Option Leaf)) : Type 0 where
  pub count : length (grown bs).paths ≡ length leaves
  pub stands : (n : ℕ) → n < length leaves → slice_index_or leaves n None ≢ None → IsAt (grown bs).tree (path_in (grown bs) n) n
  pub only : (path : List (Cut × Side)) (n : ℕ) → IsAt (grown bs).tree path n
      → (n < length leaves) × (path_in (grown bs) n ≡ path) × (slice_index_or leaves n None ≢ None)

-- each branching is of a node that stood before
abbrev pub AreBelow : ℕ → List Branching → Type 0
AreBelow k [] = Unit {0}
AreBelow k (b ∷ bs) = (b.node < k) × AreBelow (k + 2) bs

-- odd numbers are low parts
abbrev pub IsSide : ℕ → Side → Type 0
IsSide n Low = n % 2 ≡ 1
IsSide n High = n % 2 ≡ 0

-- what is read past the end of a list
abbrev pub no_branching : Branching
no_branching = record { node = 0; cut = Slack 0 0 }

-- the node that is read there: a gap that stands nowhere
abbrev pub no_node : Kept
no_node = KeptLeaf (GapLeaf 0)

-- the node of this number keeps its leaf, or the place of a branching with this cut, whose two nodes stand below
abbrev pub Stands : List Branching → List Kept → Numbered → ℕ → Type 0
Stands bs kept (Number m) n = m ≡ n
Stands bs kept (Cuts cut low high) n =
    (place : ℕ) × (slice_index_or kept n no_node ≡ Branched place) × (place < length bs)
    × ((slice_index_or bs place no_branching).cut ≡ cut) × Stands bs kept low (2 * place + 1)
    × Stands bs kept high (2 * place + 2)

-- the lists keep a tree whose nodes are numbered as they were made
pub record NodesAreNumbered (bs : List Branching) (kept : List Kept) : Type 0 where
  pub nodes : AreNodes bs (map kept_leaf kept)
  pub below : AreBelow 1 bs
  pub stands : Stands bs kept (grown bs).tree 0
  pub lines : length (preorder (tree_of bs (map kept_leaf kept))) ≡ length kept
  pub within : length kept ≤ MOST_LINES

-- the lists are those of a tree, with memory for so many branchings and so many nodes, of which this many make the room
pub record TreeListsAreKept (bs : List Branching) (kept : List Kept) (room branchings nodes : ℕ) : Type 0 where
  pub numbered : NodesAreNumbered bs kept
  pub pairs : room ≤ 2 * branchings + 1
  pub each : room ≤ nodes

-- the node n becomes the branch of this place, and its two leaves take the next places
abbrev pub after_split : List Kept → ℕ → ℕ → Kept → Kept → List Kept
after_split kept n place low high = slice_set kept n (Branched place) ++ low ∷ high ∷ []
