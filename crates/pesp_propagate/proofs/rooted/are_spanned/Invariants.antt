use Rattle.std.proofs.Common.{ℕ, ◌<◌}
use Rattle.pesp_problem.specs.Arcs.{arc_at}
use Rattle.pesp_propagate.specs.Rooted.{roots_of, IsSpanned}
use Rattle.pesp_propagate.proofs.rooted.are_spanned.Given as goal

abbrev pub invariant-loop-arc : goal.invariant-loop-arc
invariant-loop-arc l = (i : ℕ) → i < l.arc-index → IsSpanned l.events (arc_at l.arcs i) (roots_of l.rooted)
