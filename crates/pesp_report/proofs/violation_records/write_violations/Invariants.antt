use Rattle.std.proofs.Common.{ℕ, List, ◌++◌, map, take}
use Rattle.std.specs.Prelude.{option_copied}
use Rattle.pesp_report.specs.Report.{records_text}
use Rattle.pesp_report.specs.Naming.{naming_of}
use Rattle.pesp_report.specs.Violations.{violation_fields}
use Rattle.pesp_report.specs.Written.{HasWritten}
use Rattle.pesp_report.proofs.violation_records.write_violations.Given as goal

abbrev pub invariant-loop-violation : goal.invariant-loop-violation
invariant-loop-violation l = (before : List ℕ) → HasWritten l.fn.writer before
    → HasWritten l.writer (before ++ records_text (map (violation_fields (naming_of (option_copied l.names))) (take l.violation-index l.violations)))
