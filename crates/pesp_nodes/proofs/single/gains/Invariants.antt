use Rattle.pesp_problem.proofs.Durations.{SoFar}
use Rattle.pesp_nodes.proofs.Singles.{term_of}
use Rattle.pesp_nodes.proofs.single.gains.Given as goal

abbrev pub invariant-loop-net : goal.invariant-loop-net
invariant-loop-net l = SoFar 1030000 (term_of l.arcs l.slacks l.pair.mult) l.counts l.net-index l.sum
