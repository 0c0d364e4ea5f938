use Rattle.std.proofs.Common.{ℕ, ◌<◌}
use Rattle.pesp_bound.specs.Settling.{at, SettlesEdge}
use Rattle.pesp_bound.proofs.edge.are_settled.Given as goal

abbrev pub invariant-loop-k : goal.invariant-loop-k
invariant-loop-k l = (j : ℕ) → j < l.k → SettlesEdge l.edges (at l.levels) j
