-- What a work makes of a leaf: the parts of a tree in preorder, its leaves with the values under which their nodes wait.
use Rattle.std.specs.Prelude.{◌≡◌, ℕ, ℤ, true, List, [], ◌∷◌, map, Option, Some, None}
use Rattle.pesp_problem.specs.declared.pair.Pair.{Pair}
use Rattle.pesp_problem.specs.Nodes.{Node, leaf_value, low_part, high_part}
use Rattle.pesp_truth.specs.Trees.{Tree, Leaf, Bound, Shut, Line, EndLine, CutLine, preorder}
use Rattle.pesp_nodes.specs.Problems.{ProblemValue, problem_net}
use Rattle.pesp_tree.specs.Leaves.{leaf_of}
use Rattle.pesp_tree.specs.declared.work.Work.{Work}
use Rattle.pesp_tree.specs.BoardLeaves.{told}
use Rattle.pesp_tree.specs.Events.{Makes}
use Rattle.pesp_board.specs.declared.part.Valued.{Valued}
use Rattle.pesp_board.specs.declared.part.Part.{Part}
use Rattle.pesp_board.specs.declared.part.Part.TheVariants.{Cut as CutPart, Leaf as LeafPart}
use Rattle.pesp_board.specs.declared.part.Made.{Made}
use Rattle.pesp_board.specs.declared.part.Made.TheVariants.{Leaf as MadeLeaf, Branch as MadeBranch, Tree as MadeTree}

-- the value under which the node of a leaf waits: that of a bound leaf there, as it is told, and none for another leaf
abbrev pub IsWorthAt : ProblemValue → Node → Leaf → Option ℕ → Type 0
IsWorthAt p node (Bound pairs) value = (v : ℤ) × (leaf_value (problem_net p) p.table node pairs true ≡ Some v) × (value ≡ Some (told v))
IsWorthAt p node (Shut reason) value = value ≡ None

-- a leaf is valued rightly at a node
abbrev pub IsValued : ProblemValue → Node → Valued → Type 0
IsValued p node part = IsWorthAt p node (leaf_of part.leaf) part.value

-- the parts of what is made
abbrev pub parts_of : Made → List Part
parts_of (MadeLeaf part) = LeafPart part ∷ []
parts_of (MadeBranch cut low high) = CutPart cut ∷ LeafPart low ∷ LeafPart high ∷ []
parts_of (MadeTree parts) = parts.items

-- the line of a part
abbrev pub part_line : Part → Line
part_line (CutPart cut) = CutLine cut
part_line (LeafPart part) = EndLine (leaf_of part.leaf)

-- the lines of parts, in order
abbrev pub part_lines : List Part → List Line
part_lines parts = map part_line parts

-- the leaves are valued rightly where the parts stand in preorder at these nodes, one tree after the other
abbrev pub AreValued : ProblemValue → List Node → List Part → Type 0
AreValued p nodes [] = Unit {0}
AreValued p [] (part ∷ parts) = ⊥
AreValued p (node ∷ nodes) (LeafPart part ∷ parts) = IsValued p node part × AreValued p nodes parts
AreValued p (node ∷ nodes) (CutPart cut ∷ parts) = AreValued p (low_part node cut ∷ high_part node cut ∷ nodes) parts

-- the parts are those of a tree that a work makes of a bound leaf with these pairs at a node, valued rightly
pub record MakesParts (p : ProblemValue) (node : Node) (old : List Pair) (work : Work) (parts : List Part) : Type 0 where
  pub tree : Tree
  pub lines : preorder tree ≡ part_lines parts
  pub makes : Makes p node old work tree
  pub valued : AreValued p (node ∷ []) parts
