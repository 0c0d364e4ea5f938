use Rattle.std.proofs.Common.{◌≡◌, ◌≢◌, ◌<◌, ℕ, All}
use Rattle.std.specs.List.{AllPairs}
use Rattle.std.specs.Prelude.{Contains}
use Rattle.pesp_network.specs.Growing.{at}
use Rattle.pesp_network.proofs.walks.forest_rows.Given as goal

abbrev pub invariant-loop-event : goal.invariant-loop-event
invariant-loop-event l = record {
  apart : AllPairs (λ a b. a ≢ b) l.found.items;
  before : All (λ k. (x : ℕ) × (x < l.event) × (0 < at l.forest.by.items x) × (at l.forest.by.items x ≡ k)) l.found.items;
  all : (x : ℕ) → x < l.event → 0 < at l.forest.by.items x → Contains l.found.items (at l.forest.by.items x);
}
