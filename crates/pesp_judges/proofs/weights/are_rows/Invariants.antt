use Rattle.std.proofs.Common.{ℕ, ◌<◌, get_or}
use Rattle.pesp_problem.specs.declared.pair.Pair.{Pair}
use Rattle.pesp_problem.specs.Walks.{Names}
use Rattle.pesp_judges.proofs.weights.are_rows.Given as goal

abbrev pub invariant-loop-pair : goal.invariant-loop-pair
invariant-loop-pair l = (i : ℕ) (d : Pair) → i < l.pair-index → Names l.rows (get_or l.weights i d).cycle
