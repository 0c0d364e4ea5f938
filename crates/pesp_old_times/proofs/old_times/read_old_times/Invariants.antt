use Rattle.std.proofs.Common.{ℕ, ℤ, List}
use Rattle.csv.specs.Reading.{strip_bom}
use Rattle.pesp_old_times.specs.Tables.{HoldsTimes}
use Rattle.pesp_old_times.proofs.Entries.{Reads}
use Rattle.pesp_old_times.proofs.old_times.read_old_times.Given as goal

abbrev pub invariant-loop-line : goal.invariant-loop-line
invariant-loop-line l =
    (goal.iterator-loop-line).can_next l.line-iterator ×
    (goal.iterator-loop-line).is_finite l.line-iterator ×
    ((es : List (ℤ × ℕ)) × Reads l.period (strip_bom l.text) l.line-iterator l.n es × HoldsTimes l.events es l.table)
