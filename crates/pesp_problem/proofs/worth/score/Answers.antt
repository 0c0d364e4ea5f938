use Rattle.std.proofs.Common.{arith, ap, ◌∙◌, length, refl}
use Rattle.std.specs.Prelude.{◌≤ℤ◌, pos, ◌-ℤ◌}
use Rattle.pesp_problem.specs.Timetables.{row_at, IsTimetableOfCost}
use Rattle.pesp_problem.proofs.Judging.{judged-more, judged-all, only_cost}
use Rattle.pesp_problem.proofs.worth.score.Goals as goal

pub loop-place-preserved : goal.loop-place-preserved
loop-place-preserved c =
    let fits : pos c.slack_of-slack.result ≤ℤ ((row_at c.rows-row-items.result.now c.loop-place.place).upper -ℤ
    (row_at c.rows-row-items.result.now c.loop-place.place).lower) = c.if-not-is_satisfied.ensures.0 refl in
    judged-more
    _ _ _ _ _ c.from.result (length c.args.instance.now.events)
    c.loop-place.invariant
    (omega arith)
    (omega (arith, c.period-period.ensures.limits.period, c.period-period.ensures.period))
    (omega (arith, c.from.ensures, c.slack_of-slack.ensures.below))
    (rw c.rows-row-items.ensures.rows c.rows-row-items.ensures.limits.each)
    (c.from.ensures ∙ c.slack_of-slack.ensures.value)
    (rw c.from.ensures fits)

timetable : (c : goal.After-loop-place) → IsTimetableOfCost c.args.instance.now c.args.times.now c.loop-place.cost
timetable c =
    let all = judged-all c.args.instance.now c.args.times.now c.loop-place.place c.loop-place.cost
    (rw (← c.rows-row-items.ensures.rows, ← c.period-period.ensures.period) c.loop-place.invariant)
    (omega (arith, ap length c.rows-row-items.ensures.rows)) in
    ((c.if-not-are_times.ensures.0 refl, all.0), all.1)

pub returns-clause-score : goal.returns-clause-score
returns-clause-score c = timetable c

pub returns-clause-feasible : goal.returns-clause-feasible
returns-clause-feasible c = only_cost c.args.instance.now c.args.times.now c.loop-place.cost (timetable c)
