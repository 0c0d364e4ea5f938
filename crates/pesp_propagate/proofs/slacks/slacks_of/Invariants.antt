use Rattle.std.proofs.Common.{◌≡◌, ◌<◌, ℕ, slice_index, length}
use Rattle.pesp_problem.specs.Arcs.{arc_at, arc_slack}
use Rattle.pesp_propagate.proofs.slacks.slacks_of.Given as goal

abbrev pub invariant-loop-arc : goal.invariant-loop-arc
invariant-loop-arc l = record {
  long : length l.slacks.items ≡ l.arc-index;
  each : (i : ℕ) → i < l.arc-index → slice_index l.slacks.items i ≡ arc_slack l.period l.times (arc_at l.arcs i);
}
