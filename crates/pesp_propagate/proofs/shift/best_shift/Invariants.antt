use Rattle.pesp_propagate.proofs.Summing.{IsBest}
use Rattle.pesp_propagate.proofs.shift.best_shift.Given as goal

abbrev pub invariant-loop-i : goal.invariant-loop-i
invariant-loop-i l = IsBest l.costs l.bars l.best l.i
