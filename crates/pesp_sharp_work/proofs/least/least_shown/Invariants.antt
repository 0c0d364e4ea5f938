use Rattle.pesp_sharp_work.proofs.Lesser.{IsLeastSoFar}
use Rattle.pesp_sharp_work.proofs.least.least_shown.Given as goal

abbrev pub invariant-loop-value : goal.invariant-loop-value
invariant-loop-value l = IsLeastSoFar l.shown l.fn.cost l.least l.value-index
