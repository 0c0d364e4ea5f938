use Rattle.std.proofs.Common.{◌∙◌, ◌+◌, sym, ap, Some}
use Rattle.pesp_problem.specs.Timetables.{row_at}
use Rattle.pesp_report.specs.declared.violation.Violation.{Violation}
use Rattle.pesp_report.proofs.ViolatedRows.{violation-is, violation-none, violation-some}
use Rattle.pesp_report.proofs.violation.violation_at.Goals as goal

pub returns-then-not-is_above : goal.returns-then-not-is_above
returns-then-not-is_above c =
    let isnt = rw (c.rows.ensures.rows, c.line_at-line.ensures) at (sym c.is_above.ensures ∙ c.if-not-is_above.true) in
    sym (violation-none c.args.instance.now c.args.times.now (c.args.place + 1) (row_at c.args.instance.now.rows c.args.place) isnt)

pub returns : goal.returns
returns c =
    let is = rw (c.rows.ensures.rows, c.line_at-line.ensures) at (sym c.is_above.ensures ∙ c.if-not-is_above.false) in
    let excess = rw (c.rows.ensures.rows, c.line_at-line.ensures) at c.excess_of.ensures in
    let short = rw (c.period.ensures.period, c.line_at-line.ensures) at c.short_of.ensures in
    let told = ap (λ (v : Violation). Some v) (violation-is c.args.instance.now c.args.times.now c.args.place
    c.rows.ensures.limits c.requires.place) in
    let some = sym (violation-some c.args.instance.now c.args.times.now (c.args.place + 1)
    (row_at c.args.instance.now.rows c.args.place) is) in
    rw (excess, short, c.rows.ensures.rows, c.line_at-line.ensures) (told ∙ some)
