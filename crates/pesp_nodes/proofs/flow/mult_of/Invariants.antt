use Rattle.std.proofs.Common.{◌-◌}
use Rattle.pesp_nodes.proofs.Searching.{IsSearched}
use Rattle.pesp_nodes.proofs.flow.mult_of.Given as goal

abbrev pub invariant-loop-from : goal.invariant-loop-from
invariant-loop-from l = IsSearched l.pairs l.cycle l.from l.to

abbrev pub decreases-loop-from : goal.decreases-loop-from
decreases-loop-from l = l.to - l.from
