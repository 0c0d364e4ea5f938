use Rattle.std.proofs.Common.{◌≡◌, ◌<◌, ℕ, length}
use Rattle.std.specs.Prelude.{slice_index}
use Rattle.pesp_problem.proofs.Joined.{first_in}
use Rattle.pesp_truth.proofs.firsts.join_rows.Given as goal

abbrev pub invariant-loop-place : goal.invariant-loop-place
invariant-loop-place l = (event : ℕ) → event < length l.labels → slice_index l.labels event ≡ first_in l.arcs l.place event
