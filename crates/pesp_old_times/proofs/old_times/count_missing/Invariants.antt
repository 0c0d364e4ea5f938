use Rattle.std.proofs.Common.{◌≡◌, ◌≤◌, take, sum_by}
use Rattle.pesp_old_times.specs.OldTimes.{lack}
use Rattle.pesp_old_times.proofs.old_times.count_missing.Given as goal

abbrev pub invariant-loop-time : goal.invariant-loop-time
invariant-loop-time l = record {
  sum : l.missing ≡ sum_by lack (take l.time-index l.times);
  small : l.missing ≤ l.time-index;
}
