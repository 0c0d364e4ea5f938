use Rattle.std.proofs.Common.{ℕ, List, ◌++◌, map, take}
use Rattle.pesp_report.specs.Report.{records_text}
use Rattle.pesp_report.specs.Written.{HasWritten}
use Rattle.pesp_timetable.specs.Timetable.{entry_fields}
use Rattle.pesp_timetable.proofs.records.write_entries.Given as goal

abbrev pub invariant-loop-entry : goal.invariant-loop-entry
invariant-loop-entry l = (before : List ℕ) → HasWritten l.fn.writer before
    → HasWritten l.writer (before ++ records_text (map (entry_fields l.tolds) (take l.entry-index l.entries)))
