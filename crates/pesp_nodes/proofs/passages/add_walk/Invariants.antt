use Rattle.pesp_nodes.proofs.Passing.{ArePassedTo}
use Rattle.pesp_nodes.proofs.passages.add_walk.Given as goal

abbrev pub invariant-loop-s : goal.invariant-loop-s
invariant-loop-s l = ArePassedTo l.fn.cycle l.walk l.initial.by_row.items l.by_row.items l.s-index
