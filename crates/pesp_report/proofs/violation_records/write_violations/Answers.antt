use Rattle.std.proofs.Common.{◌++◌, ◌<◌, arith, take, map, length, get_or, append_assoc, List, ℕ, pos}
use Rattle.std.specs.Prelude.{option_copied}
use Rattle.std.proofs.lemmas.List.{take_all}
use Rattle.csv.specs.Writing.{default_writer, row_text}
use Rattle.pesp_report.specs.Report.{records_text}
use Rattle.pesp_report.specs.Naming.{naming_of}
use Rattle.pesp_report.specs.Violations.{violation_fields}
use Rattle.pesp_report.specs.declared.violation.Violation.{Violation}
use Rattle.pesp_report.proofs.Order.{records-more}
use Rattle.pesp_report.proofs.violation_records.write_violations.Goals as goal

abbrev no_violation : Violation
no_violation = record { row = 0; label = pos 0; tail = pos 0; head = pos 0; duration = pos 0; lower = pos 0; upper = pos 0; excess = pos 0; short = 0 }

pub loop-violation-preserved : goal.loop-violation-preserved
loop-violation-preserved c = λ before h.
    let i = c.loop-violation.violation-index in
    let there : i < length c.args.violations.now = omega arith in
    let so_far : List ℕ = records_text (map (violation_fields (naming_of (option_copied c.args.names))) (take i c.args.violations.now)) in
    let next : List ℕ = row_text default_writer (violation_fields (naming_of (option_copied c.args.names)) (get_or c.args.violations.now i no_violation)) in
    let more = c.in_ok-write_violation.ensures (before ++ so_far) (c.loop-violation.invariant before h) in
    rw (records-more (violation_fields (naming_of (option_copied c.args.names))) c.args.violations.now i no_violation there) (rw (append_assoc before so_far next) at more)

pub returns : goal.returns
returns c = λ before h.
    let all = take_all c.loop-violation.violation-index c.args.violations.now (omega arith) in
    rw all at (c.loop-violation.invariant before h)
