use Rattle.std.proofs.Common.{◌≡◌, ℕ, ◌<◌, vec_len}
use Rattle.pesp_network.specs.Growing.{at}
use Rattle.pesp_network.specs.Networks.{arcs_of_network}
use Rattle.pesp_network.specs.Floods.{GrownOver, AllClosed}
use Rattle.pesp_network.proofs.growth.grow.Given as goal

abbrev pub invariant-loop-start : goal.invariant-loop-start
invariant-loop-start l = record {
  grown : GrownOver (arcs_of_network l.rows) l.growth;
  closed : AllClosed l.growth;
  seen : (x : ℕ) → x < l.start → 0 < at l.growth.place.items x;
  events : vec_len l.growth.up ≡ l.events;
}
