use Rattle.pesp_problem.proofs.Passes.{AreRated}
use Rattle.pesp_problem.proofs.rates.add_rates.Given as goal

abbrev pub invariant-loop-s : goal.invariant-loop-s
invariant-loop-s l = AreRated l.period l.alpha l.walk l.fn.mult l.initial.rates l.rates l.s-index
