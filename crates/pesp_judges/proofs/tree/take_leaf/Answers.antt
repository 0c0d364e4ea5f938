use Rattle.std.proofs.Common.{◌≡◌, ap, ◌∙◌}
use Rattle.std.specs.Prelude.{drop}
use Rattle.pesp_problem.specs.Arcs.{net_of}
use Rattle.pesp_judges.specs.LeafLines.{leaf_said}
use Rattle.pesp_judges.proofs.Judged.{leaf_told}
use Rattle.pesp_leaves.specs.Ranges.{node_of}
use Rattle.pesp_judges.proofs.tree.take_leaf.Goals as goal

pub returns-clause-verdict : goal.returns-clause-verdict
returns-clause-verdict g c walks claim nets told =
    let nodes = c.ranges-2.ensures.nodes in
    leaf_told claim (net_of c.args.checker.now.instance.now) walks (leaf_said g.P.Elements.elements c.args.leaf)
    c.args.walk.now.nodes c.leaf.new.self.nodes nodes.0 (node_of c.ranges-2.result.now) c.args.line c.judge_leaf-found.result
    nodes.1 c.leaf.ensures.nodes (c.judge_leaf-found.ensures.verdict walks claim nets told)
