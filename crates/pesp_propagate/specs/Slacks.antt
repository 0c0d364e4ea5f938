-- Slacks in a list.
use Rattle.std.specs.Prelude.{◌≡◌, ℕ, ◌<◌, List, length, slice_index}
use Rattle.pesp_problem.specs.declared.arc.Arc.{Arc}
use Rattle.pesp_problem.specs.Arcs.{arc_at, arc_slack}

-- the slacks at times, in a list
pub record AreSlacksAt (period : ℕ) (times : List ℕ) (arcs : List Arc) (slacks : List ℕ) : Type 0 where
  pub long : length slacks ≡ length arcs
  pub each : (i : ℕ) → i < length arcs → slice_index slacks i ≡ arc_slack period times (arc_at arcs i)
