use Rattle.std.proofs.Common.{◌≡◌, ℕ, ◌-◌, ◌*◌, ◌≤◌, length, sum}
use Rattle.pesp_bound.specs.Settling.{at}
use Rattle.pesp_bound.specs.Growing.{LevelsAreGrown}
use Rattle.pesp_bound.proofs.passes.settle_in.Given as goal

abbrev pub invariant-loop-event : goal.invariant-loop-event
invariant-loop-event l = record {
  size : length l.level ≡ length l.initial.level;
  size_by : length l.by ≡ length l.initial.level;
  low : (x : ℕ) → at l.level x ≤ l.limit;
  grown : LevelsAreGrown l.edges l.level l.by;
}

abbrev pub decreases-loop-event : goal.decreases-loop-event
decreases-loop-event l = length l.initial.level * l.limit - sum l.level
