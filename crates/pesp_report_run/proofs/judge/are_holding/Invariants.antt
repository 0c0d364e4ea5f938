use Rattle.std.proofs.Common.{◌<◌, ℕ}
use Rattle.pesp_problem.specs.Timetables.{row_at}
use Rattle.pesp_report_run.specs.Fixed.{IsHolding}
use Rattle.pesp_report_run.proofs.judge.are_holding.Given as goal

abbrev pub invariant-loop-place : goal.invariant-loop-place
invariant-loop-place l = (i : ℕ) → i < l.place → IsHolding (row_at l.fixed.rows i)
