use Rattle.pesp_conflict.proofs.Numbers.{AreAmong}
use Rattle.pesp_conflict.proofs.lists.are_among.Given as goal

abbrev pub invariant-loop-row : goal.invariant-loop-row
invariant-loop-row l = AreAmong l.listed l.some l.row-index
