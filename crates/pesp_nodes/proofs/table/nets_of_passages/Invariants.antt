use Rattle.pesp_nodes.proofs.Transposing.{AreNetsTo}
use Rattle.pesp_nodes.proofs.table.nets_of_passages.Given as goal

abbrev pub invariant-loop-place : goal.invariant-loop-place
invariant-loop-place l = AreNetsTo l.fn.cycles l.by_row l.nets.items l.place
