use Rattle.std.proofs.Common.{ℕ, ◌<◌}
use Rattle.std.specs.Prelude.{◌≤ℤ◌}
use Rattle.pesp_problem.specs.Nodes.{offset_range}
use Rattle.pesp_branching.proofs.choice.offset_to_cut.Given as goal

abbrev pub invariant-loop-place : goal.invariant-loop-place
invariant-loop-place l = (c : ℕ) → c < l.place → (offset_range l.offsets c).1 ≤ℤ (offset_range l.offsets c).0
