use Rattle.pesp_nodes.specs.Problems.{problem_net}
use Rattle.pesp_nodes.proofs.LeafValues.{IsOffsetSum}
use Rattle.pesp_nodes.proofs.value.offset_sum.Given as goal

abbrev pub invariant-loop-pair : goal.invariant-loop-pair
invariant-loop-pair l = IsOffsetSum (problem_net l.problem) l.problem.table l.node l.pairs l.pair-index l.sum
