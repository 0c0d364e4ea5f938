-- Trees whose nodes have numbers: for each node the path to it and, until it is split, its leaf.
use Rattle.std.specs.Prelude.{◌≡◌, ◌≤◌, ℕ, List, [], ◌∷◌, ◌++◌, length, slice_index_or, slice_set, Option, Some, None, IsSome}
use Rattle.pesp_problem.specs.declared.limits.TheConstants.{MOST_LINES}
use Rattle.pesp_problem.specs.declared.cut.Cut.{Cut}
use Rattle.pesp_problem.specs.declared.cut.Side.{Side}
use Rattle.pesp_problem.specs.declared.cut.Side.TheVariants.{Low, High}
use Rattle.pesp_truth.specs.Trees.{Tree, Leaf, Ends, Branch, Bound, preorder}
use Rattle.pesp_truth.specs.Leaves.{IsLeafAt, put}

-- a tree, for each of its nodes the path to it from the root and its leaf, none for a branch, and for how many nodes there is
-- room
pub record WorkTreeValue : Type 0 where
  pub tree : Tree
  pub paths : List (List (Cut × Side))
  pub leaves : List (Option Leaf)
  pub room : ℕ

-- the path to a node
abbrev pub path_to : WorkTreeValue → ℕ → List (Cut × Side)
path_to t node = slice_index_or t.paths node []

-- the leaf of a node, none for a branch
abbrev pub leaf_at : WorkTreeValue → ℕ → Option Leaf
leaf_at t node = slice_index_or t.leaves node None

-- one bound leaf without pairs, which is node 0, with room for itself
abbrev pub opening_tree : WorkTreeValue
opening_tree = record { tree = Ends (Bound []); paths = [] ∷ []; leaves = Some (Bound []) ∷ []; room = 1 }

-- another leaf at a node
abbrev pub with_leaf : WorkTreeValue → ℕ → Leaf → WorkTreeValue
with_leaf t node leaf = record {
  tree = put t.tree (path_to t node) (Ends leaf);
  paths = t.paths;
  leaves = slice_set t.leaves node (Some leaf);
  room = t.room;
}

-- a branch at a node, with two leaves that take the next two numbers
abbrev pub with_branch : WorkTreeValue → ℕ → Cut → Leaf → Leaf → WorkTreeValue
with_branch t node cut low high = record {
  tree = put t.tree (path_to t node) (Branch cut (Ends low) (Ends high));
  paths = t.paths ++ (path_to t node ++ (cut, Low) ∷ []) ∷ (path_to t node ++ (cut, High) ∷ []) ∷ [];
  leaves = slice_set t.leaves node None ++ Some low ∷ Some high ∷ [];
  room = t.room;
}

-- with room for so many nodes
abbrev pub with_room : WorkTreeValue → ℕ → WorkTreeValue
with_room t room = record { tree = t.tree; paths = t.paths; leaves = t.leaves; room = room }

-- each leaf of the tree is that of exactly one node, and stands where the node's path leads
pub record IsWhole (t : WorkTreeValue) : Type 0 where
  pub counted : length t.paths ≡ length t.leaves
  pub lines : length (preorder t.tree) ≡ length t.leaves
  pub within : length t.leaves ≤ MOST_LINES
  pub stands : (node : ℕ) (leaf : Leaf) → leaf_at t node ≡ Some leaf → IsLeafAt t.tree (path_to t node) leaf
  pub found : (path : List (Cut × Side)) (leaf : Leaf) → IsLeafAt t.tree path leaf
      → (node : ℕ) × (path_to t node ≡ path) × (leaf_at t node ≡ Some leaf)
  pub one : (m n : ℕ) → IsSome (leaf_at t m) → IsSome (leaf_at t n) → path_to t m ≡ path_to t n → m ≡ n
