use Rattle.std.proofs.Common.{◌≡◌, ℕ, ◌<◌, ◌≤◌, true, false}
use Rattle.std.specs.Prelude.{slice_index_or}
use Rattle.pesp_problem.specs.Nodes.{slack_range}
use Rattle.pesp_branching.proofs.choice.slack_to_cut.Given as goal

abbrev pub invariant-loop-place : goal.invariant-loop-place
invariant-loop-place l = (i : ℕ) → i < l.place → slice_index_or l.passed i false ≡ true
    → (slack_range l.slacks i).1 ≤ (slack_range l.slacks i).0
