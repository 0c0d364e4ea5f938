-- What the rows add to the value of a leaf under any weights, by their flows and their rates.
use Rattle.std.specs.Prelude.{ℕ, List, length, ℤ, pos, ◌-ℤ◌, ◌*ℤ◌, Bool, if◌then◌else◌}
use Rattle.pesp_problem.specs.declared.arc.Arc.{Arc}
use Rattle.pesp_problem.specs.Sums.{sum_below}
use Rattle.pesp_problem.specs.Arcs.{arc_at, over_arcs}
use Rattle.pesp_problem.specs.Nodes.{slack_range}
use Rattle.pesp_problem.specs.declared.rates.Rates.{Rates}
use Rattle.pesp_problem.specs.Rates.{rates_at}
use Rattle.pesp_problem.specs.Terms.{number_at, lesser_excess}

-- the sum over all rows of flow times lower bound
abbrev pub lower_sum : List Arc → List ℤ → ℤ
lower_sum arcs flows = over_arcs arcs (λ i. number_at flows i *ℤ (arc_at arcs i).lower)

-- what a unit of slack costs beyond the flow
abbrev pub unit_cost_left : ℕ → Bool → ℤ → ℤ → ℤ
unit_cost_left scale weighted weight flow = pos scale *ℤ (if weighted then weight else pos 0) -ℤ flow

-- what the slacks of all rows cost at least beyond the flows and the gains
abbrev pub rows_sum : List (ℕ × ℕ) → List ℤ → Bool → ℕ → List ℤ → List Rates → ℤ
rows_sum slacks weights weighted scale flows rates =
    sum_below (length slacks) (λ i. lesser_excess
    (unit_cost_left scale weighted (number_at weights i) (number_at flows i)) (slack_range slacks i) (rates_at rates i))
