-- The lines of a valid certificate's tree, and the tree and the queue that are made of them.
use Rattle.std.specs.Prelude.{◌≡◌, ℕ, List, [], ◌∷◌, All, Option, sum_by, true, None}
use Rattle.std.specs.List.Sorted.{IsPermutation}
use Rattle.pesp_problem.specs.Nodes.{Node}
use Rattle.pesp_truth.specs.Trees.{Plain, Line, EndLine, CutLine, CutExists, IsSoundLeaf, AreSound, are_trees}
use Rattle.pesp_truth.specs.Certificates.{Content, lines_of}
use Rattle.pesp_nodes.specs.Problems.{ProblemValue, problem_net, IsNodeOf}
use Rattle.pesp_tree.specs.WorkTrees.{WorkTreeValue, IsWhole, opening_tree, with_room}
use Rattle.pesp_tree.specs.Queues.{QueueValue}
use Rattle.pesp_tree.specs.Limits.{pairs_in, IsLineOf}
use Rattle.pesp_tree.specs.States.{root_of}
use Rattle.pesp_board.specs.declared.part.Part.{Part}
use Rattle.pesp_board.specs.Parts.{part_lines, AreValued}
use Rattle.pesp_board.specs.Growing.{with_parts, news}

-- the line is sound at a node, for a least cost or for none
abbrev pub IsSoundForSome : ProblemValue → Node → Line → Type 0
IsSoundForSome p node (EndLine leaf) = (least : Option ℕ) × IsSoundLeaf (Plain least) (problem_net p) p.table leaf node
IsSoundForSome p node (CutLine cut) = CutExists (problem_net p) p.table cut

-- the lines are sound trees for a least cost or for none, one for each of the nodes, in order
abbrev pub AreSoundLines : ProblemValue → List Line → List Node → Type 0
AreSoundLines p lines nodes = (least : Option ℕ) × AreSound (Plain least) (problem_net p) p.table lines nodes

-- each of them is a node of the problem
abbrev pub AreNodesOf : ProblemValue → List Node → Type 0
AreNodesOf p [] = Unit {0}
AreNodesOf p (node ∷ nodes) = IsNodeOf p node × AreNodesOf p nodes

-- each of the lines keeps its limits
abbrev pub AreLinesOf : ProblemValue → List Line → Type 0
AreLinesOf p lines = All (IsLineOf p) lines

-- the tree has these parts, and the queue the entries of its bound leaves, all of which wait
pub record IsPlantedAlone (parts : List Part) (u : WorkTreeValue) (r : QueueValue) : Type 0 where
  pub room : ℕ
  pub tree : u ≡ with_parts (with_room opening_tree room) (0 ∷ []) parts
  pub waiting : IsPermutation (news (with_room opening_tree room) (0 ∷ []) parts) r.waiting
  pub parked : r.parked ≡ []

-- the tree and the queue are made of the certificate's lines, which have so many pairs
pub record IsGrownOf (p : ProblemValue) (content : Content) (u : WorkTreeValue) (r : QueueValue) (pairs : ℕ) : Type 0 where
  pub parts : List Part
  pub lines : part_lines parts ≡ lines_of content
  pub shape : are_trees 1 (part_lines parts) ≡ true
  pub valued : AreValued p (root_of p ∷ []) parts
  pub count : pairs ≡ sum_by pairs_in (lines_of content)
  pub planted : IsPlantedAlone parts u r
  pub whole : IsWhole u
