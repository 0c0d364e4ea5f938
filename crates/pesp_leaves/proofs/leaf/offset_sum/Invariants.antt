use Rattle.std.proofs.Common.{◌+◌, ◌≤◌, ◌*◌, List, length}
use Rattle.std.specs.Prelude.{unsigned_abs}
use Rattle.pesp_problem.specs.declared.row.SignedRow.{SignedRow}
use Rattle.pesp_problem.specs.Arcs.{net_of}
use Rattle.pesp_problem.specs.Nodes.{offset_part}
use Rattle.pesp_problem.specs.Nets.{AreNets}
use Rattle.pesp_leaves.specs.Flows.{ArePairsOf}
use Rattle.pesp_leaves.specs.Ranges.{node_of}
use Rattle.pesp_problem.proofs.LeafValues.{IsWhole}
use Rattle.pesp_leaves.proofs.leaf.offset_sum.Given as goal

abbrev pub invariant-loop-pair : goal.invariant-loop-pair
invariant-loop-pair g l = record {
  exist : ArePairsOf (length l.checker.table.now) (g.P.Elements.elements l.left);
  whole : (walks : List (List SignedRow)) → AreNets (length l.checker.instance.now.rows) walks l.checker.table.now
      → IsWhole l.checker.instance.now.period l.sum
      (offset_part (net_of l.checker.instance.now) walks (node_of l.ranges) (g.P.Elements.elements l.left))
      (offset_part (net_of l.checker.instance.now) walks (node_of l.ranges) (g.P.Elements.elements l.fn.pairs));
  size : unsigned_abs l.sum + length (g.P.Elements.elements l.left) * (1000000000000 * 10100000000000)
      ≤ 100000 * (1000000000000 * 10100000000000);
}

abbrev pub decreases-loop-pair : goal.decreases-loop-pair
decreases-loop-pair g l = length (g.P.Elements.elements l.left)
