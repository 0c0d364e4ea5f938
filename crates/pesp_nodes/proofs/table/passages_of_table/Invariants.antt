use Rattle.pesp_nodes.proofs.Passing.{ArePassagesTo}
use Rattle.pesp_nodes.proofs.table.passages_of_table.Given as goal

abbrev pub invariant-loop-place : goal.invariant-loop-place
invariant-loop-place l = ArePassagesTo l.fn.rows l.table l.by_row.items l.place
