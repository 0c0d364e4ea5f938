use Rattle.std.proofs.Common.{◌+◌, ap, arith, length}
use Rattle.pesp_problem.specs.Timetables.{row_at}
use Rattle.pesp_report_run.specs.Fixed.{IsSameActivity}
use Rattle.pesp_report_run.proofs.Places.{one-more}
use Rattle.pesp_report_run.proofs.judge.are_kept.Goals as goal

pub overflow_add-more : goal.overflow_add-more
overflow_add-more c =
    omega (arith, c.requires, ap length c.rows-place-end.ensures.rows, c.rows-limits.ensures.limits.rows, c.loop-place-test.true)

pub loop-place-preserved : goal.loop-place-preserved
loop-place-preserved c =
    one-more (λ i. IsSameActivity c.args.instance.now c.args.fixed.now (row_at c.args.instance.now.rows i)
    (row_at c.args.fixed.now.rows (c.args.more + i))) c.loop-place.place c.loop-place.invariant
    (c.is_same.ensures c.if-not-is_same.false)
