use Rattle.std.proofs.Common.{◌≡◌, List, length, map, drop, true}
use Rattle.pesp_problem.specs.declared.row.SignedRow.{SignedRow}
use Rattle.pesp_problem.specs.Arcs.{net_of}
use Rattle.pesp_problem.specs.Nodes.{root}
use Rattle.pesp_truth.specs.Trees.{Claim, are_trees, line_of}
use Rattle.pesp_problem.specs.Nets.{AreZeros, AreNets}
use Rattle.pesp_leaves.specs.Claims.{TellsOf, HasRoom}
use Rattle.pesp_judges.specs.Lines.{AreJudged}
use Rattle.pesp_judges.proofs.whole_tree.judge_tree.Given as goal

abbrev pub invariant-loop-place : goal.invariant-loop-place
invariant-loop-place l = record {
  problem : l.walk.problem ≡ l.checker.instance.now;
  cycles : l.walk.cycles ≡ length l.checker.table.now;
  zeros : AreZeros l.flows;
  room : HasRoom l.checker.claim (length l.checker.instance.now.rows) (length l.rates);
  whole : are_trees (length l.walk.nodes) (map line_of (drop l.place l.lines)) ≡ true;
  judged : (walks : List (List SignedRow)) (claim : Claim) → AreNets (length l.checker.instance.now.rows) walks l.checker.table.now
      → TellsOf l.checker.claim claim → AreJudged claim (net_of l.checker.instance.now) walks l.lines
      (root (net_of l.checker.instance.now) walks) l.fn.first l.walk.nodes l.place;
}
