-- The nodes of a tree that are still to come, as the present node and the way to it tell them.
use Rattle.std.specs.Prelude.{◌-◌, List, [], ◌∷◌, reverse, slice_set, Bool, true, false}
use Rattle.pesp_problem.specs.declared.cut.Cut.{Cut}
use Rattle.pesp_problem.specs.declared.cut.Cut.TheVariants.{Slack, Offset}
use Rattle.pesp_problem.specs.declared.cut.Side.{Side}
use Rattle.pesp_problem.specs.declared.cut.Side.TheVariants.{Low, High}
use Rattle.pesp_problem.specs.Nodes.{Node, slack_range, offset_range, low_part, high_part}
use Rattle.pesp_problem.specs.declared.path.Change.{Change}
use Rattle.pesp_problem.specs.declared.path.Change.TheVariants.{Slack as SlackChange, Offset as OffsetChange}
use Rattle.pesp_problem.specs.declared.path.Branch.{Branch}

-- the cut that made a change
abbrev pub cut_of : Change → Cut
cut_of (SlackChange row k was) = Slack row k
cut_of (OffsetChange cycle k was) = Offset cycle k

-- what a cut is going to change at a node
abbrev pub change_of : Node → Cut → Change
change_of node (Slack row k) = SlackChange row k (slack_range node.slacks (row - 1))
change_of node (Offset cycle k) = OffsetChange cycle k (offset_range node.offsets (cycle - 1))

-- the node with the changed range as it was
abbrev pub restored : Node → Change → Node
restored node (SlackChange row k was) = record node { slacks = slice_set node.slacks (row - 1) was }
restored node (OffsetChange cycle k was) = record node { offsets = slice_set node.offsets (cycle - 1) was }

-- the second part of a branch is still to come while the walk is in the first
abbrev pub with_second : Node → Cut → Side → List Node → List Node
with_second node cut Low nodes = high_part node cut ∷ nodes
with_second node cut High nodes = nodes

-- the nodes to come after the present one, by its path with the newest branch first
abbrev pub pending : Node → List Branch → List Node
pending node [] = []
pending node (branch ∷ path) = with_second (restored node branch.change) (cut_of branch.change) branch.side
    (pending (restored node branch.change) path)

-- the present node, where there is one, and those to come after it, by its path with the oldest branch first
abbrev pub waiting : Bool → Node → List Branch → List Node
waiting true node path = node ∷ pending node (reverse path)
waiting false node path = []

-- the two parts of a cut in place of the present node
abbrev pub branched : List Node → Cut → List Node
branched [] cut = []
branched (node ∷ nodes) cut = low_part node cut ∷ high_part node cut ∷ nodes
