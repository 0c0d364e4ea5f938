-- Lines of trees whose branches leave both of their parts a value, each line at the first of the nodes that wait.
use Rattle.std.specs.Prelude.{List, [], ◌∷◌}
use Rattle.pesp_problem.specs.declared.row.SignedRow.{SignedRow}
use Rattle.pesp_problem.specs.Arcs.{Net}
use Rattle.pesp_problem.specs.Nodes.{Node, LeavesBoth}
use Rattle.pesp_truth.specs.Trees.{Line, EndLine, CutLine}
use Rattle.pesp_judges.specs.Lines.{after}
use Rattle.pesp_branching.specs.Rooms.{IsCounted}

-- a branch cuts a range that counts, and leaves both of its parts a value of it
abbrev pub LineLeavesBoth : Net → List (List SignedRow) → Line → List Node → Type 0
LineLeavesBoth n table line [] = ⊥
LineLeavesBoth n table (EndLine leaf) (node ∷ nodes) = Unit {0}
LineLeavesBoth n table (CutLine cut) (node ∷ nodes) = IsCounted n table cut × LeavesBoth node cut

-- so does each of the lines
abbrev pub LinesLeaveBoth : Net → List (List SignedRow) → List Line → List Node → Type 0
LinesLeaveBoth n table [] nodes = Unit {0}
LinesLeaveBoth n table (line ∷ lines) nodes = LineLeavesBoth n table line nodes × LinesLeaveBoth n table lines (after line nodes)
