use Rattle.std.proofs.Common.{◌≡◌, [], ◌∷◌, length}
use Rattle.pesp_problem.specs.Arcs.{net_of}
use Rattle.pesp_problem.specs.Nodes.{root}
use Rattle.pesp_truth.specs.Certificates.{claim_of, least_of}
use Rattle.pesp_problem.specs.Nets.{AreZeros}
use Rattle.pesp_whole_check.proofs.Shown.{AreShown}
use Rattle.pesp_whole_check.proofs.costs.tree_costs.Given as goal

abbrev pub invariant-loop-line : goal.invariant-loop-line
invariant-loop-line l = record {
  problem : l.walk.problem ≡ l.checker.instance.now;
  cycles : l.walk.cycles ≡ length l.checker.table.now;
  zeros : AreZeros l.flows;
  shown : AreShown l.checker.instance.now l.certificate.cycles
      (claim_of l.front (net_of l.checker.instance.now) (least_of l.certificate.answer)) l.certificate.tree
      (root (net_of l.checker.instance.now) l.certificate.cycles ∷ []) l.line-index l.walk.nodes
      l.shown.items;
}
