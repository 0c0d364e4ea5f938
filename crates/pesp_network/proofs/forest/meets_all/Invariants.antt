use Rattle.std.proofs.Common.{◌≤◌, ℕ, length}
use Rattle.pesp_problem.specs.Walks.{Names}
use Rattle.pesp_network.specs.Networks.{arcs_of_network}
use Rattle.pesp_network.specs.Rooted.{IsMetBy}
use Rattle.pesp_network.proofs.forest.meets_all.Given as goal

abbrev pub invariant-loop-row : goal.invariant-loop-row
invariant-loop-row l = (k : ℕ) → Names (length (arcs_of_network l.rows)) k → k ≤ l.row-index → IsMetBy (arcs_of_network l.rows) l.forest k
