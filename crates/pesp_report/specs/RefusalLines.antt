-- The lines of refusals.
use Rattle.std.specs.Prelude.{ℕ, List, ◌++◌, codes, decimal}
use Rattle.pesp_report.specs.declared.refusal.TimesRefusal.{TimesRefusal}
use Rattle.pesp_report.specs.declared.refusal.TimesRefusal.TheVariants.{BadLine, WrongCount, Memory as TimesMemory}
use Rattle.pesp_report.specs.declared.refusal.ReportRefusal.{ReportRefusal}
use Rattle.pesp_report.specs.declared.refusal.ReportRefusal.TheVariants.{Violates, NotTimes, Memory, Write}

-- number, name and line of a refusal of a times text
abbrev pub times_line : TimesRefusal → List ℕ
times_line (BadLine n) = codes "1 BadLine line " ++ decimal n
times_line WrongCount = codes "2 WrongCount"
times_line TimesMemory = codes "3 Memory"

-- number, name and row of a refusal of a report
abbrev pub report_line : ReportRefusal → List ℕ
report_line (Violates row) = codes "1 Violates row " ++ decimal row
report_line NotTimes = codes "2 NotTimes"
report_line Memory = codes "3 Memory"
report_line Write = codes "4 Write"
