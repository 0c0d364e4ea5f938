use Rattle.pesp_truth.proofs.Starting.{Taking}
use Rattle.pesp_truth.proofs.support.start_one.Given as goal

abbrev pub invariant-loop-difference : goal.invariant-loop-difference
invariant-loop-difference l = Taking l.period l.event l.difference l.initial.words l.words
