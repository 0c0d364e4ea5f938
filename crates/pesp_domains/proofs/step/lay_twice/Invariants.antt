use Rattle.pesp_domains.proofs.Words.{Laying}
use Rattle.pesp_domains.proofs.step.lay_twice.Given as goal

abbrev pub invariant-loop-k : goal.invariant-loop-k
invariant-loop-k l = Laying l.period l.others l.initial.twice l.twice l.k
