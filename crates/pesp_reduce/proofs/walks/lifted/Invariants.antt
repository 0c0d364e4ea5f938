-- the walk so far is that of the signed rows that were read
use Rattle.pesp_reduce.proofs.LiftedWalks.{IsLiftedUpTo}
use Rattle.pesp_reduce.proofs.walks.lifted.Given as goal

abbrev pub invariant-loop-i : goal.invariant-loop-i
invariant-loop-i l = IsLiftedUpTo l.whole l.contraction l.left l.walk l.i l.made.items
