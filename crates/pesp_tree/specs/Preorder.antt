-- A node's line, and the parts that come after it.
use Rattle.std.specs.Prelude.{◌≡◌, ◌<◌, ◌+◌, ◌*◌, ℕ, List, [], ◌∷◌, length, slice_index_or}
use Rattle.pesp_truth.specs.Trees.{Line, EndLine, CutLine}
use Rattle.pesp_tree.specs.declared.node.Branching.{Branching}
use Rattle.pesp_tree.specs.declared.node.Kept.{Kept}
use Rattle.pesp_tree.specs.declared.node.Kept.TheVariants.{Leaf as KeptLeaf, Branched}
use Rattle.pesp_tree.specs.Leaves.{leaf_of}
use Rattle.pesp_tree.specs.Numbered.{no_branching, no_node}

-- the line of what is kept of a node
abbrev pub line_in : List Branching → Kept → Line
line_in bs (KeptLeaf leaf) = EndLine (leaf_of leaf)
line_in bs (Branched place) = CutLine (slice_index_or bs place no_branching).cut

-- the line of a node
abbrev pub node_line : List Branching → List Kept → ℕ → Line
node_line bs kept n = line_in bs (slice_index_or kept n no_node)

-- the numbers of the two parts of a branch, the low part last
abbrev pub parts_in : Kept → List ℕ
parts_in (KeptLeaf leaf) = []
parts_in (Branched place) = (2 * place + 2) ∷ (2 * place + 1) ∷ []

-- the parts of the node of this number
abbrev pub parts_at : List Kept → ℕ → List ℕ
parts_at kept n = parts_in (slice_index_or kept n no_node)

-- there is such a node, and its branching where it has one
abbrev pub NodeIsKnown : List Branching → List Kept → ℕ → Type 0
NodeIsKnown bs kept n = (n < length kept) × ((place : ℕ) → slice_index_or kept n no_node ≡ Branched place → place < length bs)

-- the node itself where it keeps a leaf, and nothing where it is a branch
abbrev pub own_in : Kept → ℕ → List ℕ
own_in (KeptLeaf leaf) n = n ∷ []
own_in (Branched place) n = []

-- the node of this number where it keeps a leaf, and nothing where it is a branch
abbrev pub own_at : List Kept → ℕ → List ℕ
own_at kept n = own_in (slice_index_or kept n no_node) n
