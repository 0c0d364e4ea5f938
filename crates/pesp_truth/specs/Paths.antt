-- Paths through a tree: the node to which a path leads, and the nodes that wait beside it, the nearest first.
use Rattle.std.specs.Prelude.{List, [], ◌∷◌, ◌++◌}
use Rattle.pesp_problem.specs.declared.cut.Cut.{Cut}
use Rattle.pesp_problem.specs.declared.cut.Side.{Side}
use Rattle.pesp_problem.specs.declared.cut.Side.TheVariants.{Low, High}
use Rattle.pesp_problem.specs.Nodes.{Node, part, high_part}

-- the part of a part of a node, and so on, step by step
abbrev pub along : Node → List (Cut × Side) → Node
along node [] = node
along node (step ∷ path) = along (part node step.0 step.1) path

-- what waits beside a step: the second part while the path goes through the first
abbrev pub beside : Node → Cut → Side → List Node
beside node cut Low = high_part node cut ∷ []
beside node cut High = []

-- what waits beside all steps of a path, in the order in which preorder comes to it
abbrev pub waiting_beside : Node → List (Cut × Side) → List Node
waiting_beside node [] = []
waiting_beside node (step ∷ path) = waiting_beside (part node step.0 step.1) path ++ beside node step.0 step.1
