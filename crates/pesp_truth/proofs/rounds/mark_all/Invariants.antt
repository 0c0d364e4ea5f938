use Rattle.std.proofs.Common.{◌≡◌, ◌<◌, ℕ}
use Rattle.pesp_truth.specs.Rounds.{is_marked}
use Rattle.pesp_truth.proofs.rounds.mark_all.Given as goal

abbrev pub invariant-loop-event : goal.invariant-loop-event
invariant-loop-event l = (event : ℕ) → event < l.event → is_marked l.marks event ≡ l.mark
