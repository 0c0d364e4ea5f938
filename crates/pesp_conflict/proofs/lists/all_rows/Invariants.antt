use Rattle.pesp_conflict.specs.Findings.{AreAll}
use Rattle.pesp_conflict.proofs.lists.all_rows.Given as goal

abbrev pub invariant-loop-place : goal.invariant-loop-place
invariant-loop-place l = AreAll l.place l.rows.items
