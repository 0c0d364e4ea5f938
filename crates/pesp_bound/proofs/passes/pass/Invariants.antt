use Rattle.std.proofs.Common.{◌≡◌, ℕ, ◌≤◌, ◌<◌, length, sum, MatchOption}
use Rattle.pesp_bound.specs.Settling.{at, SettlesEdge}
use Rattle.pesp_bound.specs.Growing.{LevelsAreGrown}
use Rattle.pesp_bound.proofs.passes.pass.Given as goal

abbrev pub invariant-loop-k : goal.invariant-loop-k
invariant-loop-k l = record {
  size : length l.level ≡ length l.initial.level;
  size_by : length l.by ≡ length l.initial.level;
  low : (x : ℕ) → at l.level x ≤ l.limit;
  grown : LevelsAreGrown l.edges l.level l.by;
  so_far : MatchOption l.last ((l.level ≡ l.initial.level) × ((j : ℕ) → j < l.k → SettlesEdge l.edges (at l.level) j))
      (λ e. (e < length l.initial.level) × (sum l.initial.level < sum l.level));
}
