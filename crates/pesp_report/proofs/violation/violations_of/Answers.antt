use Rattle.std.proofs.Common.{◌∙◌, ◌+◌, ◌<◌, ◌++◌, [], List, ap, arith, length}
use Rattle.std.specs.List.{cons_option, enumerate_from, filter_map}
use Rattle.std.proofs.lemmas.List.{take_all}
use Rattle.std.proofs.lemmas.List.FromFn.{length-enumerate_from}
use Rattle.pesp_problem.specs.Timetables.{row_at}
use Rattle.pesp_report.specs.Violations.{violation_at}
use Rattle.pesp_report.specs.declared.violation.Violation.{Violation}
use Rattle.pesp_report.proofs.ViolatedRows.{violations-more}
use Rattle.pesp_report.proofs.violation.violations_of.Goals as goal

pub loop-place-preserved : goal.loop-place-preserved
loop-place-preserved c =
    let there : c.loop-place.place < length c.args.instance.now.rows = omega (arith, ap length c.rows-place-end.ensures.rows) in
    let more = violations-more c.args.instance.now c.args.times.now c.loop-place.place there in
    rw (c.in_ok-push_some.ensures, more, c.violation_at.ensures)
    (ap (λ (l : List Violation). l ++ cons_option
    (violation_at c.args.instance.now c.args.times.now
    (c.loop-place.place + 1, row_at c.args.instance.now.rows c.loop-place.place)) []) c.loop-place.invariant)

pub returns : goal.returns
returns c =
    let all = take_all c.loop-place.place (enumerate_from 1 c.args.instance.now.rows)
    (omega (
      arith,
      length-enumerate_from 1 c.args.instance.now.rows,
      ap length c.rows-place-end.ensures.rows,
    )) in
    c.loop-place.invariant ∙ ap (filter_map (violation_at c.args.instance.now c.args.times.now)) all
