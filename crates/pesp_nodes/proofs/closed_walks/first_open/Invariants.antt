use Rattle.std.proofs.Common.{ℕ, ◌<◌}
use Rattle.pesp_problem.specs.Walks.{IsWalk}
use Rattle.pesp_problem.specs.Nodes.{cycle_at}
use Rattle.pesp_nodes.proofs.closed_walks.first_open.Given as goal

abbrev pub invariant-loop-place : goal.invariant-loop-place
invariant-loop-place l = (c : ℕ) → c < l.place → IsWalk l.arcs (cycle_at l.table c)
