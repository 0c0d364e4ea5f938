-- The lines of a tree that may stand in the place of a bound leaf, each judged at the first of the nodes that wait.
use Rattle.std.specs.Prelude.{◌≡◌, ◌≢◌, ℤ, List, [], ◌∷◌, Option, Result, Ok, Err}
use Rattle.std.specs.Global.{Vec}
use Rattle.pesp_problem.specs.declared.cut.Cut.{Cut}
use Rattle.pesp_problem.specs.declared.cut.Side.{Side}
use Rattle.pesp_problem.specs.Nodes.{Node, low_part, high_part, LeavesBoth}
use Rattle.pesp_truth.specs.Trees.{Line, Ends, EndLine, CutLine, CutExists}
use Rattle.pesp_nodes.specs.Problems.{ProblemValue, problem_net, IsNodeOf}
use Rattle.pesp_nodes.specs.Pending.{CutsFirst}
use Rattle.pesp_tree.specs.declared.refusal.GiveRefusal.{GiveRefusal}
use Rattle.pesp_tree.specs.declared.refusal.GiveRefusal.TheVariants.{UnknownJob, AlreadyGiven, NotValid, Memory, TooLarge}
use Rattle.pesp_tree.specs.States.{node_at}
use Rattle.pesp_tree.specs.Events.{IsGraft}
use Rattle.pesp_board.specs.declared.part.Part.{Part}
use Rattle.pesp_board.specs.declared.part.Part.TheVariants.{Cut as CutPart, Leaf as LeafPart}
use Rattle.pesp_board.specs.Parts.{IsValued, AreValued, part_line, part_lines}

-- the line may stand at a node in a tree that takes the place of a bound leaf of this worth
abbrev pub IsGraftLine : ProblemValue → Option ℤ → Node → Line → Type 0
IsGraftLine p worth node (EndLine leaf) = IsGraft p worth node (Ends leaf)
IsGraftLine p worth node (CutLine cut) = CutExists (problem_net p) p.table cut × LeavesBoth node cut

-- the nodes that wait after a line of the first of them
abbrev pub after : Line → Node → List Node → List Node
after (EndLine leaf) node nodes = nodes
after (CutLine cut) node nodes = low_part node cut ∷ high_part node cut ∷ nodes

-- the nodes that wait after a line, of a list that may be empty
abbrev pub after_first : Line → List Node → List Node
after_first line [] = []
after_first line (node ∷ nodes) = after line node nodes

-- a part that may be taken at the first of the nodes
abbrev pub StandsFirst : List Node → Part → Type 0
StandsFirst nodes (CutPart cut) = CutsFirst nodes cut
StandsFirst nodes (LeafPart part) = nodes ≢ []

-- the lines are whole trees that may stand there, one for each of the nodes, in order
abbrev pub AreGrafts : ProblemValue → Option ℤ → List Line → List Node → Type 0
AreGrafts p worth [] [] = Unit {0}
AreGrafts p worth [] (node ∷ nodes) = ⊥
AreGrafts p worth (line ∷ lines) [] = ⊥
AreGrafts p worth (line ∷ lines) (node ∷ nodes) = IsGraftLine p worth node line × AreGrafts p worth lines (after line node nodes)

-- a leaf is valued rightly at a node, and a cut needs no value
abbrev pub IsValuedPart : ProblemValue → Node → Part → Type 0
IsValuedPart p node (CutPart cut) = Unit {0}
IsValuedPart p node (LeafPart part) = IsValued p node part

-- the part that a line at a node makes, or that the line may not stand there
abbrev pub MakesPartOf : ProblemValue → Option ℤ → Node → Line → Result Part GiveRefusal → Type 0
MakesPartOf p worth node line (Ok part) = IsGraftLine p worth node line × (part_line part ≡ line) × IsValuedPart p node part
MakesPartOf p worth node line (Err NotValid) = IsGraftLine p worth node line → ⊥
MakesPartOf p worth node line (Err Memory) = Unit {0}
MakesPartOf p worth node line (Err UnknownJob) = ⊥
MakesPartOf p worth node line (Err AlreadyGiven) = ⊥
MakesPartOf p worth node line (Err TooLarge) = ⊥

-- a path leads to the node
pub record IsReached (p : ProblemValue) (node : Node) : Type 0 where
  pub path : List (Cut × Side)
  pub at : node ≡ node_at p path
  pub fits : IsNodeOf p node

-- a path leads to each of them
abbrev pub AreReached : ProblemValue → List Node → Type 0
AreReached p [] = Unit {0}
AreReached p (node ∷ nodes) = IsReached p node × AreReached p nodes

-- the parts that lines make of a bound leaf at nodes, or that they aren't whole trees that may stand there, one for each of the nodes
abbrev pub AreJudgedParts : ProblemValue → Option ℤ → List Node → List Line → Result (Vec Part) GiveRefusal → Type 0
AreJudgedParts p worth nodes lines (Ok parts) = AreGrafts p worth lines nodes × (part_lines parts.items ≡ lines) × AreValued p nodes parts.items
AreJudgedParts p worth nodes lines (Err NotValid) = AreGrafts p worth lines nodes → ⊥
AreJudgedParts p worth nodes lines (Err Memory) = Unit {0}
AreJudgedParts p worth nodes lines (Err UnknownJob) = ⊥
AreJudgedParts p worth nodes lines (Err AlreadyGiven) = ⊥
AreJudgedParts p worth nodes lines (Err TooLarge) = ⊥
