use Rattle.std.proofs.Common.{ℕ, ◌<◌, length, take}
use Rattle.pesp_problem.specs.Arcs.{arcs_of}
use Rattle.pesp_problem.specs.Walks.{IsWalk}
use Rattle.pesp_problem.specs.Nodes.{cycle_at}
use Rattle.pesp_problem.specs.Nets.{AreNets, AreZeros}
use Rattle.pesp_judges.proofs.walks.judge_cycles.Given as goal

abbrev pub invariant-loop-place : goal.invariant-loop-place
invariant-loop-place l = record {
  walks : (c : ℕ) → c < l.place → IsWalk (arcs_of l.instance) (cycle_at l.cycles c);
  nets : AreNets (length l.instance.rows) (take l.place l.cycles) l.table.items;
  zeros : AreZeros l.working;
}
