use Rattle.std.proofs.Common.{◌≡◌, take, map, List, length}
use Rattle.pesp_problem.specs.declared.row.SignedRow.{SignedRow}
use Rattle.pesp_problem.specs.Arcs.{net_of}
use Rattle.pesp_problem.specs.Nodes.{odijk_range}
use Rattle.pesp_problem.specs.Nets.{AreNets}
use Rattle.pesp_judges.proofs.table.root_offsets.Given as goal

abbrev pub invariant-loop-nets : goal.invariant-loop-nets
invariant-loop-nets l = record {
  offsets : (walks : List (List SignedRow)) → AreNets (length l.instance.rows) walks l.table
      → l.offsets.items ≡ map (odijk_range (net_of l.instance) l.slacks) (take l.nets-index walks);
  long : length l.offsets.items ≡ l.nets-index;
}
