use Rattle.std.proofs.Common.{ℕ, List, ◌++◌, map, take}
use Rattle.pesp_report.specs.Naming.{name_of}
use Rattle.pesp_report.specs.Named.{named_fields}
use Rattle.pesp_report.specs.Report.{records_text}
use Rattle.pesp_report.specs.Written.{HasWritten}
use Rattle.pesp_report.proofs.named_records.write_named_lines.Given as goal

abbrev pub invariant-loop-line : goal.invariant-loop-line
invariant-loop-line l = (before : List ℕ) → HasWritten l.fn.writer before
    → HasWritten l.writer (before ++ records_text
    (map (named_fields (name_of l.names)) (take l.line-index l.lines)))
