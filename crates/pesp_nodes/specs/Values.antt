-- What a row adds to the value of a leaf.
use Rattle.std.specs.Prelude.{ℕ, ℤ, pos, ◌-ℤ◌, ◌*ℤ◌, Bool, true, List}
use Rattle.pesp_problem.specs.declared.arc.Arc.{Arc}
use Rattle.pesp_problem.specs.Arcs.{arc_at}
use Rattle.pesp_problem.specs.Nodes.{weight_of, slack_range}
use Rattle.pesp_problem.specs.Ranges.{lesser}

-- the least that the slack costs beyond the flow, less the flow times the lower bound
abbrev pub plain_row_term : Arc → ℕ × ℕ → Bool → ℤ → ℤ
plain_row_term arc range weighted flow = lesser (weight_of weighted arc -ℤ flow) range -ℤ flow *ℤ arc.lower

-- the same for the row at place i
abbrev pub row_term_at : List Arc → List (ℕ × ℕ) → Bool → ℕ → ℤ → ℤ
row_term_at arcs slacks weighted i flow = plain_row_term (arc_at arcs i) (slack_range slacks i) weighted flow

-- what the row at place i adds with this flow beyond what it adds with none
abbrev pub flow_gain_at : List Arc → List (ℕ × ℕ) → ℕ → ℤ → ℤ
flow_gain_at arcs slacks i flow = row_term_at arcs slacks true i flow -ℤ row_term_at arcs slacks true i (pos 0)
