use Rattle.pesp_turns.proofs.PathNodes.{IsAlong}
use Rattle.pesp_turns.proofs.path_node.node_from.Given as goal

abbrev pub invariant-loop-step : goal.invariant-loop-step
invariant-loop-step l = IsAlong l.root l.path l.step-index l.node
