use Rattle.pesp_search.proofs.SinglePairs.{IsBestOf}
use Rattle.pesp_search.proofs.single.best_single.Given as goal

abbrev pub invariant-loop-place : goal.invariant-loop-place
invariant-loop-place l = IsBestOf l.problem l.node l.place l.best.pairs.items l.best.value
