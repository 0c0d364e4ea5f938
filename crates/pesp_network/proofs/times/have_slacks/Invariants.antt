use Rattle.std.proofs.Common.{◌≡◌, ◌<◌, ℕ}
use Rattle.std.specs.Prelude.{slice_index}
use Rattle.pesp_problem.specs.Arcs.{arc_at, arc_slack}
use Rattle.pesp_network.specs.Networks.{arcs_of_network}
use Rattle.pesp_network.proofs.times.have_slacks.Given as goal

abbrev pub invariant-loop-i : goal.invariant-loop-i
invariant-loop-i l = (j : ℕ) → j < l.i → arc_slack l.period l.times (arc_at (arcs_of_network l.rows) j) ≡ slice_index l.slacks j
