use Rattle.std.proofs.Common.{ℕ, ◌<◌}
use Rattle.pesp_propagate.specs.Rooted.{roots_of, IsJoined}
use Rattle.pesp_propagate.proofs.rooted.are_joined.Given as goal

abbrev pub invariant-loop-event : goal.invariant-loop-event
invariant-loop-event l = (x : ℕ) → x < l.event → IsJoined l.events l.arcs (roots_of l.rooted) x
