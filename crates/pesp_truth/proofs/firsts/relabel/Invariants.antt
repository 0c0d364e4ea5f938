use Rattle.std.proofs.Common.{◌≡◌, ◌≢◌, ◌<◌, ◌≤◌, ℕ}
use Rattle.std.specs.Prelude.{slice_index}
use Rattle.pesp_truth.proofs.firsts.relabel.Given as goal

abbrev pub invariant-loop-event : goal.invariant-loop-event
invariant-loop-event l = record {
  changed : (event : ℕ) → event < l.event → slice_index l.initial.labels event ≡ l.from → slice_index l.labels event ≡ l.to;
  same : (event : ℕ) → event < l.event → slice_index l.initial.labels event ≢ l.from
      → slice_index l.labels event ≡ slice_index l.initial.labels event;
  left : (event : ℕ) → l.event ≤ event → slice_index l.labels event ≡ slice_index l.initial.labels event;
}
