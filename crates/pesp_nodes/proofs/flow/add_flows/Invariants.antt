use Rattle.std.proofs.Common.{length}
use Rattle.pesp_nodes.proofs.Flowing.{AreMade}
use Rattle.pesp_nodes.proofs.flow.add_flows.Given as goal

abbrev pub invariant-loop-pair : goal.invariant-loop-pair
invariant-loop-pair l = AreMade (length l.flows) l.nets l.pairs l.pair-index l.flows
