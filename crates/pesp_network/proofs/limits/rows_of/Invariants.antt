use Rattle.std.proofs.Common.{◌≡◌, ◌<◌, ◌+◌, ℕ, length, map, take, All}
use Rattle.pesp_problem.specs.Arcs as spec
use Rattle.pesp_problem.specs.Limits.{RowKeepsLimits}
use Rattle.pesp_network.specs.Networks.{arcs_of_network, net_row_at, RowKeepsNetLimits}
use Rattle.pesp_network.proofs.limits.rows_of.Given as goal

abbrev pub invariant-loop-i : goal.invariant-loop-i
invariant-loop-i l = record {
  len : length l.made.items ≡ l.i;
  arcs : arcs_of_network l.made.items ≡ map (spec.arc_of l.period) (take l.i l.rows);
  origins : (j : ℕ) → j < l.i → (net_row_at l.made.items j).origin ≡ j + 1;
  each : (events : ℕ) → All (RowKeepsLimits events) l.rows → All (RowKeepsNetLimits l.period events) l.made.items;
}
