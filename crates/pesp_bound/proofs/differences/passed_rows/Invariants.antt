use Rattle.pesp_bound.specs.Differences.{ArePassed}
use Rattle.pesp_bound.proofs.differences.passed_rows.Given as goal

abbrev pub invariant-loop-place : goal.invariant-loop-place
invariant-loop-place l = ArePassed l.by_row l.place l.rows.items
