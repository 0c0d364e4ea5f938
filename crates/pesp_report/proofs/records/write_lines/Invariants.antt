use Rattle.std.proofs.Common.{ℕ, List, ◌++◌, map, take}
use Rattle.pesp_report.specs.Report.{line_fields, records_text}
use Rattle.pesp_report.specs.Written.{HasWritten}
use Rattle.pesp_report.proofs.records.write_lines.Given as goal

abbrev pub invariant-loop-line : goal.invariant-loop-line
invariant-loop-line l = (before : List ℕ) → HasWritten l.fn.writer before
    → HasWritten l.writer (before ++ records_text (map line_fields (take l.line-index l.lines)))
