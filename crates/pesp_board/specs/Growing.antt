-- A tree under work grows at a leaf, part by part.
use Rattle.std.specs.Prelude.{◌≡◌, ◌≢◌, IsSome, true, ℕ, ◌+◌, ◌≤◌, List, [], ◌∷◌, ◌++◌, length, Option, Some, None}
use Rattle.pesp_problem.specs.declared.limits.TheConstants.{MOST_LINES}
use Rattle.pesp_truth.specs.Trees.{Leaf, Gap, are_trees}
use Rattle.pesp_tree.specs.Leaves.{leaf_of}
use Rattle.pesp_tree.specs.WorkTrees.{WorkTreeValue, IsWhole, leaf_at, with_leaf, with_branch, with_room}
use Rattle.pesp_tree.specs.declared.entry.Entry.{Entry}
use Rattle.pesp_tree.specs.Entries.{entry, HasItem}
use Rattle.pesp_tree.specs.Queues.{QueueValue, all_of}
use Rattle.pesp_board.specs.declared.part.Part.{Part}
use Rattle.pesp_board.specs.declared.part.Part.TheVariants.{Cut as CutPart, Leaf as LeafPart}
use Rattle.pesp_board.specs.Parts.{part_lines}
use Rattle.pesp_board.specs.Giving.{Replaces}

-- a node waits with its value, where it has one
abbrev pub waits : ℕ → Option ℕ → List Entry
waits node None = []
waits node (Some value) = entry node value ∷ []

-- the leaf that a new node has until it gets its own
abbrev pub blank_leaf : Leaf
blank_leaf = Gap 0

-- the tree with a part at a node: its leaf, or a branch with two blank leaves
abbrev pub with_part : WorkTreeValue → ℕ → Part → WorkTreeValue
with_part t node (CutPart cut) = with_branch t node cut blank_leaf blank_leaf
with_part t node (LeafPart part) = with_leaf t node (leaf_of part.leaf)

-- the nodes that are still without their part, once the one before them has got this one; new nodes are numbered from k
abbrev pub next : ℕ → Part → List ℕ → List ℕ
next k (CutPart cut) nodes = k ∷ (k + 1) ∷ nodes
next k (LeafPart part) nodes = nodes

-- the value under which the node of a part waits, where it does
abbrev pub part_value : Part → Option ℕ
part_value (CutPart cut) = None
part_value (LeafPart part) = part.value

-- there is room for the nodes that a part makes
abbrev pub HasRoomForPart : WorkTreeValue → Part → Type 0
HasRoomForPart t (CutPart cut) = (length t.leaves + 2 ≤ t.room) × (length t.leaves + 2 ≤ MOST_LINES)
HasRoomForPart t (LeafPart part) = Unit {0}

-- the tree once these nodes have got the parts, in preorder
abbrev pub with_parts : WorkTreeValue → List ℕ → List Part → WorkTreeValue
with_parts t nodes [] = t
with_parts t [] (part ∷ parts) = t
with_parts t (node ∷ nodes) (part ∷ parts) = with_parts (with_part t node part) (next (length t.leaves) part nodes) parts

-- the entries of the bound leaves among the parts
abbrev pub news : WorkTreeValue → List ℕ → List Part → List Entry
news t nodes [] = []
news t [] (part ∷ parts) = []
news t (node ∷ nodes) (part ∷ parts) = news (with_part t node part) (next (length t.leaves) part nodes) parts
    ++ waits node (part_value part)

-- the nodes differ from this one
abbrev pub AreOthers : ℕ → List ℕ → Type 0
AreOthers node [] = Unit {0}
AreOthers node (other ∷ nodes) = (other ≢ node) × AreOthers node nodes

-- nodes with leaves, all different
abbrev pub AreSites : WorkTreeValue → List ℕ → Type 0
AreSites t [] = Unit {0}
AreSites t (node ∷ nodes) = IsSome (leaf_at t node) × AreOthers node nodes × AreSites t nodes

-- none of the nodes stands in the queue
abbrev pub AreUnqueued : QueueValue → List ℕ → Type 0
AreUnqueued q [] = Unit {0}
AreUnqueued q (node ∷ nodes) = (HasItem (all_of q) node → ⊥) × AreUnqueued q nodes

-- parts that can be put at these nodes: they are whole trees, the nodes have leaves and don't stand in the queue, and there is
-- room for all that they make
pub record AreReady (t : WorkTreeValue) (q : QueueValue) (nodes : List ℕ) (parts : List Part) : Type 0 where
  pub shape : are_trees (length nodes) (part_lines parts) ≡ true
  pub whole : IsWhole t
  pub sites : AreSites t nodes
  pub fresh : AreUnqueued q nodes
  pub beyond : (node : ℕ) → length t.leaves ≤ node → HasItem (all_of q) node → ⊥
  pub lines : length t.leaves + length parts ≤ t.room + length nodes
  pub few : length t.leaves + length parts ≤ MOST_LINES + length nodes
  pub numbers : length t.leaves + length parts ≤ q.numbers + length nodes
  pub room : length (all_of q) + length parts ≤ q.room

-- the tree and the queue with the parts at a parked node, once room was made
pub record IsPlanted (t : WorkTreeValue) (q : QueueValue) (node : ℕ) (parts : List Part) (u : WorkTreeValue) (r : QueueValue) : Type 0 where
  pub room : ℕ
  pub tree : u ≡ with_parts (with_room t room) (node ∷ []) parts
  pub queue : Replaces q node (news (with_room t room) (node ∷ []) parts) r
