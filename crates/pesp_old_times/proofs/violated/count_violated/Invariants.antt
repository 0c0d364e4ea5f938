use Rattle.std.proofs.Common.{◌≡◌, ◌≤◌, take, sum_by}
use Rattle.pesp_old_times.specs.Moves.{violation}
use Rattle.pesp_old_times.proofs.violated.count_violated.Given as goal

abbrev pub invariant-loop-row : goal.invariant-loop-row
invariant-loop-row l = record {
  sum : l.count ≡ sum_by (violation l.instance l.wanted) (take l.row-index l.row-items);
  small : l.count ≤ l.row-index;
}
