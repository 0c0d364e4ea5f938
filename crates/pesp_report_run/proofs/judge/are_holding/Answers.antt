use Rattle.pesp_problem.specs.Timetables.{row_at}
use Rattle.pesp_report_run.specs.Fixed.{IsHolding}
use Rattle.pesp_report_run.proofs.Places.{one-more}
use Rattle.pesp_report_run.proofs.judge.are_holding.Goals as goal

pub loop-place-preserved : goal.loop-place-preserved
loop-place-preserved c =
    one-more (λ i. IsHolding (row_at c.args.fixed.now.rows i)) c.loop-place.place c.loop-place.invariant
    (rw c.rows.ensures.rows at (c.is_holding.ensures c.if-not-is_holding.false))
