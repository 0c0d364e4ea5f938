use Rattle.pesp_report.proofs.TimeLines.{Reads}
use Rattle.pesp_report.proofs.times.read_times.Given as goal

abbrev pub invariant-loop-line : goal.invariant-loop-line
invariant-loop-line l =
    (goal.iterator-loop-line).can_next l.line-iterator ×
    (goal.iterator-loop-line).is_finite l.line-iterator ×
    Reads l.period l.events l.text l.line-iterator l.n l.times.items
