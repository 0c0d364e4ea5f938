use Rattle.std.proofs.Common.{ℕ, ◌<◌, ◌≤◌}
use Rattle.pesp_problem.specs.Arcs.{arc_at, arc_slack}
use Rattle.pesp_problem.proofs.net_times.are_satisfied.Given as goal

abbrev pub invariant-loop-arc : goal.invariant-loop-arc
invariant-loop-arc l = (i : ℕ) → i < l.arc-index → arc_slack l.period l.times (arc_at l.arcs i) ≤ (arc_at l.arcs i).span
