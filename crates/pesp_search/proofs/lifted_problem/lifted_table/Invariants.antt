use Rattle.pesp_search.proofs.Lifting.{AreLiftedTo}
use Rattle.pesp_search.proofs.lifted_problem.lifted_table.Given as goal

abbrev pub invariant-loop-walk : goal.invariant-loop-walk
invariant-loop-walk l = AreLiftedTo l.reduced l.walks l.table.items l.walk-index
