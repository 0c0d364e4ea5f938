use Rattle.std.proofs.Common.{◌≡◌, List, length, reverse, vec_len}
use Rattle.pesp_problem.specs.Nodes.{Node}
use Rattle.pesp_leaves.specs.Ranges.{node_of, AreRanges}
use Rattle.pesp_problem.specs.Pending.{pending}
use Rattle.pesp_judges.specs.Pending.{AreChanges}
use Rattle.pesp_judges.proofs.node_walk.next_part.Given as goal

abbrev pub invariant-loop-path : goal.invariant-loop-path
invariant-loop-path l = record {
  ranges : AreRanges l.instance l.ranges;
  cycles : length l.ranges.offsets.items ≡ length l.initial.ranges.offsets.items;
  path : AreChanges (length l.instance.rows) (length l.ranges.offsets.items) l.path.items;
  parts : ◌≡◌ {A = List Node} (pending (node_of l.ranges) (reverse l.path.items))
      (pending (node_of l.initial.ranges) (reverse l.initial.path.items));
}

abbrev pub decreases-loop-path : goal.decreases-loop-path
decreases-loop-path l = vec_len l.path
