-- What an improvement is.
use Rattle.std.specs.Prelude.{◌≡◌, ℕ, ◌≤◌, List}
use Rattle.pesp_problem.specs.Arcs.{Net}
use Rattle.pesp_problem.specs.Forests.{IsSpanningForest}
use Rattle.pesp_simplex.specs.declared.improved.Improved.{Improved}
use Rattle.pesp_simplex.specs.declared.improved.Stop.TheVariants.{Local}
use Rattle.pesp_problem.specs.NetTimetables.{IsNetTimetable, net_cost}
use Rattle.pesp_propagate.specs.Local.{IsLocal}

-- a timetable that is no dearer than the times, with its cost and a spanning forest; where the improvement ended as
-- local, no shift of a side of a fundamental cut of it is cheaper
pub record IsImproved (n : Net) (events : ℕ) (times : List ℕ) (i : Improved) : Type 0 where
  pub timetable : IsNetTimetable n events i.times.items
  pub cost : i.cost ≡ net_cost n i.times.items
  pub never_dearer : i.cost ≤ net_cost n times
  pub forest : IsSpanningForest n.arcs i.forest.items
  pub ended : i.stop ≡ Local → IsLocal n events i.forest.items i.times.items
