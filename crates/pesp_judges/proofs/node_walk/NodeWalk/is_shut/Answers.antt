use Rattle.std.proofs.Common.{List, ap, subst}
use Rattle.std.specs.Prelude.{IsTrue, ◌↔◌, None}
use Rattle.pesp_problem.specs.declared.row.SignedRow.{SignedRow}
use Rattle.pesp_problem.specs.Timetables.{Pesp}
use Rattle.pesp_problem.specs.Arcs.{net_of}
use Rattle.pesp_truth.specs.Trees.{Plain, IsShut, ByPropagation}
use Rattle.pesp_leaves.specs.Ranges.{node_of}
use Rattle.pesp_judges.specs.Pending.{Standing}
use Rattle.pesp_judges.proofs.Shutting.{first_waits}
use Rattle.pesp_judges.proofs.node_walk.NodeWalk.is_shut.Goals as goal

pub returns-clause-shut : goal.returns-clause-shut
returns-clause-shut c =
    let node = node_of c.self.inside.ranges in
    let P : Pesp → Type 0 = λ p. (walks : List (List SignedRow))
    → IsTrue c.shuts-shut.result ↔ IsShut (Plain None) (net_of p) walks ByPropagation node in
    let nodes = first_waits c.self.inside.is_open node c.self.inside.path.items c.args.self.now.nodes
    (ap (λ (s : Standing). s.nodes) c.self.view_is) c.requires.open in
    (node, _, nodes, subst P (ap (λ (s : Standing). s.problem) c.self.view_is) c.shuts-shut.ensures.shut)
