use Rattle.pesp_conflict.proofs.Numbers.{AreAmong}
use Rattle.pesp_conflict.proofs.lists.are_found.Given as goal

abbrev pub invariant-loop-row : goal.invariant-loop-row
invariant-loop-row l = AreAmong l.rows l.some l.row-index
