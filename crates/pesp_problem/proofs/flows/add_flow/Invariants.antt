use Rattle.pesp_problem.proofs.Flowing.{AreAdded}
use Rattle.pesp_problem.proofs.flows.add_flow.Given as goal

abbrev pub invariant-loop-net : goal.invariant-loop-net
invariant-loop-net l = AreAdded l.counts l.fn.mult l.initial.flows l.flows l.net-index
