use Rattle.std.proofs.Common.{ℕ, List, ◌++◌, map, take}
use Rattle.std.specs.Prelude.{option_copied}
use Rattle.pesp_report.specs.Report.{records_text}
use Rattle.pesp_report.specs.Written.{HasWritten}
use Rattle.pesp_report.specs.Naming.{naming_of}
use Rattle.pesp_conflict.specs.Lists.{listed_fields}
use Rattle.pesp_conflict.proofs.records.write_lines.Given as goal

abbrev pub invariant-loop-line : goal.invariant-loop-line
invariant-loop-line l = (before : List ℕ) → HasWritten l.fn.writer before
    → HasWritten l.writer (before ++ records_text (map (listed_fields (naming_of (option_copied l.names))) (take l.line-index l.lines)))
