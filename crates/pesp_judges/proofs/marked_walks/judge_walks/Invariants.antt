use Rattle.std.proofs.Common.{ℕ, ◌<◌, map}
use Rattle.pesp_problem.specs.Arcs.{arcs_of}
use Rattle.pesp_problem.specs.Walks.{IsWalk}
use Rattle.pesp_problem.specs.Nodes.{cycle_at}
use Rattle.pesp_problem.specs.Nets.{AreZeros}
use Rattle.pesp_problem.specs.Marked.{signed_rows}
use Rattle.pesp_judges.proofs.marked_walks.judge_walks.Given as goal

abbrev pub invariant-loop-place : goal.invariant-loop-place
invariant-loop-place l = record {
  closed : (c : ℕ) → c < l.place → IsWalk (arcs_of l.instance) (cycle_at (map signed_rows l.marks.walks) c);
  zeros : AreZeros l.working;
}
