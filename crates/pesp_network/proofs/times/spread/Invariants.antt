use Rattle.std.proofs.Common.{◌≡◌, ◌<◌, ℕ, vec_len}
use Rattle.pesp_network.specs.Growing.{at}
use Rattle.pesp_network.specs.Networks.{arcs_of_network}
use Rattle.pesp_network.specs.Times.{FitsForest}
use Rattle.pesp_network.proofs.times.spread.Given as goal

abbrev pub invariant-loop-i : goal.invariant-loop-i
invariant-loop-i l = record {
  count : vec_len l.times ≡ l.events;
  less : (x : ℕ) → at l.times.items x < l.period;
  fits : FitsForest l.period (arcs_of_network l.rows) l.forest l.slacks l.times.items l.i;
}
