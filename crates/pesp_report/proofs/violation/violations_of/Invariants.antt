use Rattle.std.proofs.Common.{◌≡◌}
use Rattle.pesp_report.proofs.ViolatedRows.{violations_to}
use Rattle.pesp_report.proofs.violation.violations_of.Given as goal

abbrev pub invariant-loop-place : goal.invariant-loop-place
invariant-loop-place l = l.violations.items ≡ violations_to l.instance l.times l.place
