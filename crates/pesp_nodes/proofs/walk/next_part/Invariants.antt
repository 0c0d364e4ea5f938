use Rattle.std.proofs.Common.{◌≡◌, List, length, reverse, vec_len}
use Rattle.pesp_problem.specs.Nodes.{Node}
use Rattle.pesp_problem.specs.Pending.{pending}
use Rattle.pesp_nodes.specs.Pending.{AreChanges}
use Rattle.pesp_nodes.proofs.walk.next_part.Given as goal

abbrev pub invariant-loop-path : goal.invariant-loop-path
invariant-loop-path l = record {
  path : AreChanges (length l.node.slacks) (length l.node.offsets) l.path.items;
  parts : ◌≡◌ {A = List Node} (pending l.node (reverse l.path.items)) (pending l.initial.node (reverse l.initial.path.items));
}

abbrev pub decreases-loop-path : goal.decreases-loop-path
decreases-loop-path l = vec_len l.path
