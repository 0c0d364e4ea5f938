use Rattle.std.proofs.Common.{◌≡◌, vec_len}
use Rattle.pesp_network.specs.Networks.{arcs_of_network}
use Rattle.pesp_network.specs.Rooted.{ReachesRows}
use Rattle.pesp_network.proofs.bridges.reach_rows.Given as goal

abbrev pub invariant-loop-i : goal.invariant-loop-i
invariant-loop-i l = record {
  takes : ReachesRows (vec_len l.forest.up) (arcs_of_network l.rows) l.forest l.i l.reaches.low.items l.reaches.high.items;
  events : vec_len l.reaches.low ≡ vec_len l.forest.up;
}
