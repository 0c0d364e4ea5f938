-- The ranges of a node, and what the slacks cost there where no flow passes them.
use Rattle.std.specs.Prelude.{◌≡◌, ℕ, List, length, ℤ, pos, ◌*ℤ◌, Bool, if◌then◌else◌}
use Rattle.std.specs.Int.{int_min}
use Rattle.pesp_problem.specs.declared.arc.Arc.{Arc}
use Rattle.pesp_problem.specs.Timetables.{Pesp}
use Rattle.pesp_problem.specs.Arcs.{arc_at, arcs_of, over_arcs}
use Rattle.pesp_problem.specs.Nodes.{Node, slack_range}
use Rattle.pesp_leaves.specs.declared.ranges.Ranges.{Ranges}
use Rattle.pesp_leaves.specs.Offsets.{AreSlackRanges}

-- the node of these ranges
abbrev pub node_of : Ranges → Node
node_of ranges = record { slacks = ranges.slacks.items; offsets = ranges.offsets.items }

-- the lesser of the weight times each end of the slack range of the row at place i
abbrev pub idle_term : List Arc → List (ℕ × ℕ) → ℕ → ℤ
idle_term arcs slacks i = int_min (pos (arc_at arcs i).weight *ℤ pos (slack_range slacks i).0)
    (pos (arc_at arcs i).weight *ℤ pos (slack_range slacks i).1)

-- the sum of these over all rows
abbrev pub idle_sum : List Arc → List (ℕ × ℕ) → ℤ
idle_sum arcs slacks = over_arcs arcs (idle_term arcs slacks)

-- the same for a leaf with or without weights
abbrev pub idle_part : Pesp → List (ℕ × ℕ) → Bool → ℤ
idle_part p slacks weighted = if weighted then idle_sum (arcs_of p) slacks else pos 0

-- a slack range for each row, and the sum that belongs to them
pub record AreRanges (p : Pesp) (ranges : Ranges) : Type 0 where
  pub slacks : AreSlackRanges (length p.rows) ranges.slacks.items
  pub idle : ranges.idle ≡ idle_sum (arcs_of p) ranges.slacks.items
