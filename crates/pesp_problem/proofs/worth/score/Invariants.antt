use Rattle.pesp_problem.proofs.Judging.{Judged}
use Rattle.pesp_problem.proofs.worth.score.Given as goal

abbrev pub invariant-loop-place : goal.invariant-loop-place
invariant-loop-place l = Judged l.period l.row-items l.times l.place l.cost
