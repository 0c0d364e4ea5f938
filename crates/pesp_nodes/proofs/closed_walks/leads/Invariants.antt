use Rattle.pesp_nodes.proofs.Following.{Continues}
use Rattle.pesp_nodes.proofs.closed_walks.leads.Given as goal

abbrev pub invariant-loop-s : goal.invariant-loop-s
invariant-loop-s l = Continues l.arcs l.from l.way l.to l.event l.s-index
