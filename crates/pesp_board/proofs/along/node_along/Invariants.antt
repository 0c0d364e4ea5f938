use Rattle.std.proofs.Common.{◌≡◌, drop}
use Rattle.pesp_truth.specs.Paths.{along}
use Rattle.pesp_nodes.specs.Problems.{IsNodeOf}
use Rattle.pesp_tree.specs.States.{node_at}
use Rattle.pesp_board.proofs.along.node_along.Given as goal

abbrev pub invariant-loop-step : goal.invariant-loop-step
invariant-loop-step l = IsNodeOf l.problem l.node × (along l.node (drop l.step-index l.path) ≡ node_at l.problem l.path)
