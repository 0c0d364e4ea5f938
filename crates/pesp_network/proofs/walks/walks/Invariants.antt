use Rattle.std.proofs.Common.{◌≡◌, ◌≤◌}
use Rattle.pesp_network.specs.Networks.{arcs_of_network, signed_rows}
use Rattle.pesp_network.specs.Ways.{walks_of}
use Rattle.pesp_network.proofs.walks.walks.Given as goal

abbrev pub invariant-loop-i : goal.invariant-loop-i
invariant-loop-i l = record {
  table : l.table.items ≡ walks_of (arcs_of_network l.rows) l.forest l.i;
  total : l.total ≡ signed_rows (walks_of (arcs_of_network l.rows) l.forest l.i);
  small : l.total ≤ 10000000;
}
