use Rattle.pesp_nodes.proofs.Flows.{IsFlow}
use Rattle.pesp_nodes.proofs.flow.flow_on.Given as goal

abbrev pub invariant-loop-passage : goal.invariant-loop-passage
invariant-loop-passage l = IsFlow l.pairs l.passages l.passage-index l.flow
