use Rattle.pesp_cert.proofs.LimitLoops.{RisesTo}
use Rattle.pesp_cert.proofs.limits.rise.Given as goal

abbrev pub invariant-loop-pair : goal.invariant-loop-pair
invariant-loop-pair l = RisesTo l.pairs l.pair-index l.least
