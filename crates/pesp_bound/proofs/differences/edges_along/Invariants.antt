use Rattle.pesp_bound.proofs.Gathering.{DemandsTo}
use Rattle.pesp_bound.proofs.differences.edges_along.Given as goal

abbrev pub invariant-loop-k : goal.invariant-loop-k
invariant-loop-k l = DemandsTo (record { period = l.fn.period; arcs = l.arcs }) l.slacks l.shifts l.rows l.k l.edges.items
