use Rattle.std.proofs.Common.{◌≡◌, ◌≤◌, vec_len}
use Rattle.pesp_network.specs.Networks.{arcs_of_network}
use Rattle.pesp_network.specs.Rooted.{TakesUp}
use Rattle.pesp_network.proofs.bridges.reach.Given as goal

abbrev pub invariant-loop-count : goal.invariant-loop-count
invariant-loop-count l = record {
  takes : TakesUp (vec_len l.forest.up) (arcs_of_network l.rows) l.forest l.count l.reaches.low.items l.reaches.high.items;
  most : l.count ≤ vec_len l.forest.order;
  events : vec_len l.reaches.low ≡ vec_len l.forest.up;
}

abbrev pub decreases-loop-count : goal.decreases-loop-count
decreases-loop-count l = l.count
