use Rattle.std.proofs.Common.{◌≡◌, ℕ, ◌<◌}
use Rattle.pesp_problem.specs.Arcs.{arc_at}
use Rattle.pesp_problem.specs.Nodes.{slack_range}
use Rattle.pesp_nodes.proofs.left.are_whole.Given as goal

abbrev pub invariant-loop-place : goal.invariant-loop-place
invariant-loop-place l = (i : ℕ) → i < l.place → slack_range l.slacks i ≡ (0, (arc_at l.arcs i).span)
