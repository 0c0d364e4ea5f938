use Rattle.pesp_nodes.specs.Problems.{IsNodeOf}
use Rattle.pesp_part_tests.proofs.nodes.node_of.Given as goal

abbrev pub invariant-loop-cut : goal.invariant-loop-cut
invariant-loop-cut l = IsNodeOf l.problem l.node
