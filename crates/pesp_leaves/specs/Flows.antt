-- Flows on rows, and what they change of a leaf's value.
use Rattle.std.specs.Prelude.{ℕ, ◌≤◌, List, length, ℤ, ◌-ℤ◌, ◌*ℤ◌, ◌-◌, unsigned_abs, ◌==◌, Bool, All, count_by, sum_by}
use Rattle.pesp_problem.specs.declared.limits.TheConstants.{MOST_CYCLES, MOST_MULTIPLIER}
use Rattle.pesp_problem.specs.declared.pair.Pair.{Pair}
use Rattle.pesp_problem.specs.declared.arc.Arc.{Arc}
use Rattle.pesp_problem.specs.Sums.{sum_below}
use Rattle.pesp_problem.specs.Arcs.{arc_at}
use Rattle.pesp_problem.specs.Walks.{Names}
use Rattle.pesp_problem.specs.Nodes.{slack_range, weight_of}
use Rattle.pesp_problem.specs.declared.nets.NetCount.{NetCount}
use Rattle.pesp_problem.specs.Nets.{nets_at}
use Rattle.pesp_problem.specs.Ranges.{lesser}
use Rattle.pesp_problem.specs.Terms.{number_at}

-- pairs of so many cycles, with multipliers within their limit
abbrev pub ArePairsOf : ℕ → List Pair → Type 0
ArePairsOf cycles pairs = All (λ pair. Names cycles pair.cycle × (unsigned_abs pair.mult ≤ MOST_MULTIPLIER)) pairs × (length pairs ≤ MOST_CYCLES)

-- few enough pairs, with multipliers within their limit
abbrev pub ArePairLimits : List Pair → Type 0
ArePairLimits pairs = All (λ pair. unsigned_abs pair.mult ≤ MOST_MULTIPLIER) pairs × (length pairs ≤ MOST_CYCLES)

-- what a flow on the row at place i changes: of what its slack costs at least, and by its lower bound
abbrev pub flow_term : List Arc → List (ℕ × ℕ) → Bool → ℕ → ℤ → ℤ
flow_term arcs slacks weighted i flow =
    (lesser (weight_of weighted (arc_at arcs i) -ℤ flow) (slack_range slacks i) -ℤ lesser
    (weight_of weighted (arc_at arcs i)) (slack_range slacks i)) -ℤ flow *ℤ (arc_at arcs i).lower

-- the sum of these over all rows
abbrev pub flow_sum : List Arc → List (ℕ × ℕ) → Bool → List ℤ → ℤ
flow_sum arcs slacks weighted flows = sum_below (length flows) (λ i. flow_term arcs slacks weighted i (number_at flows i))

-- how many entries at place i the cycles of the pairs have
abbrev pub entries_at : List (List NetCount) → List Pair → ℕ → ℕ
entries_at table pairs i = sum_by (λ pair. count_by (λ e. e.place == i) (nets_at table (pair.cycle - 1))) pairs
