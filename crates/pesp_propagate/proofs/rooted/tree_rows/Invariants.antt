use Rattle.pesp_propagate.specs.Rooted.{roots_of}
use Rattle.pesp_propagate.proofs.Trees.{AreTreeRowsTo}
use Rattle.pesp_propagate.proofs.rooted.tree_rows.Given as goal

abbrev pub invariant-loop-place : goal.invariant-loop-place
invariant-loop-place l = AreTreeRowsTo l.place l.arcs (roots_of l.rooted) l.rows.items
