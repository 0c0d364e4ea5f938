use Rattle.std.proofs.Common.{◌<◌, ◌+◌, ℕ}
use Rattle.pesp_problem.specs.Timetables.{row_at}
use Rattle.pesp_report_run.specs.Fixed.{IsSameActivity}
use Rattle.pesp_report_run.proofs.judge.are_kept.Given as goal

abbrev pub invariant-loop-place : goal.invariant-loop-place
invariant-loop-place l = (i : ℕ) → i < l.place → IsSameActivity l.instance l.fixed (row_at l.instance.rows i) (row_at l.fixed.rows (l.more + i))
