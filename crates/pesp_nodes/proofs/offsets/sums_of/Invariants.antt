use Rattle.pesp_nodes.specs.declared.ends.End.TheVariants.{Low, High}
use Rattle.pesp_nodes.specs.Offsets.{end_term}
use Rattle.pesp_problem.proofs.Durations.{SoFar}
use Rattle.pesp_nodes.proofs.offsets.sums_of.Given as goal

abbrev pub invariant-loop-net : goal.invariant-loop-net
invariant-loop-net l = SoFar 1030000 (end_term Low l.arcs l.slacks) l.counts l.net-index l.least
    × SoFar 1030000 (end_term High l.arcs l.slacks) l.counts l.net-index l.greatest
