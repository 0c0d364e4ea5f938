-- Tables of lifted walks, and slacks of the instance's rows as slacks of the rows that are left.
use Rattle.std.specs.Prelude.{◌≡◌, ℕ, ◌<◌, ◌≤◌, ◌⊎◌, List, [], ◌∷◌, length, map, slice_index, All, ℤ, pos, ◌*ℤ◌}
use Rattle.std.specs.List.{filter}
use Rattle.pesp_problem.specs.declared.row.SignedRow.{SignedRow}
use Rattle.pesp_problem.specs.Arcs.{Net, arc_at, arcs_of, over_arcs}
use Rattle.pesp_problem.specs.Walks.{IsWalk}
use Rattle.pesp_problem.specs.Forests.{IsSimple}
use Rattle.pesp_problem.specs.Nodes.{cycle_at}
use Rattle.pesp_network.specs.Networks.{arcs_of_network}
use Rattle.pesp_problem.specs.Congruences.{IsSame}
use Rattle.pesp_reduce.specs.LiftedWalks.{original_row, passes_kept, IsKeptOrContracted, lower_sum, HasNoRowTwice}
use Rattle.pesp_reduce.specs.Reductions.{ReducedValue, IsReducedRow, AreKeptRows, AreFatesOf, origin_place}

-- what a reduction ensures of its parts
pub record IsReduced (r : ReducedValue) : Type 0 where
  pub period : r.network.period ≡ r.original.period
  pub rows : (j : ℕ) → j < length r.network.rows → IsReducedRow r j
  pub kept : AreKeptRows r
  pub fates : AreFatesOf r.original r.fates

-- a walk of what is left, as it is lifted to the instance
pub record IsLifted (r : ReducedValue) (walk lifted : List SignedRow) : Type 0 where
  pub closes : IsWalk (arcs_of r.original) lifted
  pub kept : filter (passes_kept r.fates) lifted ≡ map (original_row r.network.rows) walk
  pub others : All (IsKeptOrContracted r.fates) lifted
  pub lower : IsSame r.original.period (lower_sum (arcs_of r.original) lifted) (lower_sum (arcs_of_network r.network.rows) walk)
  pub simple : IsSimple (arcs_of_network r.network.rows) walk → HasNoRowTwice lifted

-- each walk of a table as it is lifted
pub record AreLifted (r : ReducedValue) (walks table : List (List SignedRow)) : Type 0 where
  pub long : length table ≡ length walks
  pub each : (c : ℕ) → c < length walks → IsLifted r (cycle_at walks c) (cycle_at table c)

-- the walk passes the row of this number
abbrev pub Passes : List SignedRow → ℕ → Type 0
Passes [] row = ⊥
Passes (s ∷ walk) row = (s.row ≡ row) ⊎ Passes walk row

-- a row that the cycle at place c passes, and no other cycle of the table
pub record HasOwnRow (table : List (List SignedRow)) (c : ℕ) : Type 0 where
  pub row : ℕ
  pub passes : Passes (cycle_at table c) row
  pub alone : (d : ℕ) → d < length table → Passes (cycle_at table d) row → d ≡ c

-- each cycle passes no row twice, and some row that no other cycle passes
pub record IsFrugal (table : List (List SignedRow)) : Type 0 where
  pub simple : All HasNoRowTwice table
  pub own : (c : ℕ) → c < length table → HasOwnRow table c

-- slacks of the rows that are left, each that of the row from which it comes
pub record AreSlacksOf (r : ReducedValue) (slacks : ℕ → ℕ) (left : List ℕ) : Type 0 where
  pub long : length left ≡ length r.network.rows
  pub each : (j : ℕ) → j < length r.network.rows → slice_index left j ≡ slacks (origin_place r.network j)

-- each slack is at most the span of its row
abbrev pub AreWithin : Net → (ℕ → ℕ) → Type 0
AreWithin n slacks = (i : ℕ) → i < length n.arcs → slacks i ≤ (arc_at n.arcs i).span

-- the sum of weight times slack
abbrev pub weighted : Net → (ℕ → ℕ) → ℤ
weighted n slacks = over_arcs n.arcs (λ i. pos (arc_at n.arcs i).weight *ℤ pos (slacks i))
