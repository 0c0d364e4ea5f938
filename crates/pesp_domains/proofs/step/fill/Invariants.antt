use Rattle.pesp_domains.proofs.Words.{Fills}
use Rattle.pesp_domains.proofs.step.fill.Given as goal

abbrev pub invariant-loop-k : goal.invariant-loop-k
invariant-loop-k l = Fills l.set l.count l.k
