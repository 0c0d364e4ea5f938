use Rattle.std.proofs.Common.{◌≡◌, List, map, length, take, All}
use Rattle.pesp_problem.specs.Nodes as spec
use Rattle.pesp_problem.specs.declared.row.SignedRow.{SignedRow}
use Rattle.pesp_problem.specs.Nets.{AreNets}
use Rattle.pesp_nodes.specs.Offsets.{AreOffsetEnds, IsSmallRange}
use Rattle.pesp_nodes.proofs.problem.root_offsets.Given as goal

abbrev pub invariant-loop-counts : goal.invariant-loop-counts
invariant-loop-counts l = record {
  ends : AreOffsetEnds l.offsets.items;
  small : All (IsSmallRange l.fn.period) l.offsets.items;
  offsets : (walks : List (List SignedRow)) → AreNets (length l.arcs) walks l.nets
      → l.offsets.items ≡ map (spec.odijk_range (record { period = l.fn.period; arcs = l.arcs }) l.slacks)
      (take l.counts-index walks);
}
