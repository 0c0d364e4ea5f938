use Rattle.pesp_problem.specs.Arcs.{arcs_of}
use Rattle.pesp_problem.specs.Ranges.{least_term, greatest_term}
use Rattle.pesp_problem.proofs.Durations.{SoFar}
use Rattle.pesp_leaves.proofs.offsets.duration_sums.Given as goal

abbrev pub invariant-loop-net : goal.invariant-loop-net
invariant-loop-net l = record {
  least : SoFar 1010000 (least_term (arcs_of l.instance) l.slacks) l.counts l.net-index l.least;
  greatest : SoFar 1010000 (greatest_term (arcs_of l.instance) l.slacks) l.counts l.net-index l.greatest;
}
