use Rattle.std.proofs.Common.{rules, ◌≡◌, [], ◌∷◌, map, reverse}
use Rattle.pesp_truth.specs.Trees.{line_of}
use Rattle.pesp_tree.proofs.Holding.{few_branchings}
use Rattle.pesp_tree.proofs.Walking.{at_start, loop_known, loop_step, loop_smaller}
use Rattle.pesp_tree.proofs.preorder.lines_of.Goals as goal

pub loop-node-init : goal.loop-node-init
loop-node-init c =
    let none : map line_of c.new-lines.result.items ≡ [] = search rules in
    let first : reverse c.push.new.self.items ≡ 0 ∷ [] = search rules in
    rw none (rw first (at_start c.args.branchings.now c.args.nodes.now c.requires))

pub visit-requires-clause-node : goal.visit-requires-clause-node
visit-requires-clause-node c = loop_known c.args.branchings.now c.args.nodes.now
    (map line_of c.loop-node.lines.items) c.loop-node.waiting.items c.pop.new.self.items c.in-Some.node
    c.loop-node.invariant c.in-Some.ensures.items

pub visit-requires-clause-few : goal.visit-requires-clause-few
visit-requires-clause-few c = few_branchings c.args.branchings.now c.args.nodes.now c.requires

pub loop-node-smaller : goal.loop-node-smaller
loop-node-smaller c = loop_smaller c.args.branchings.now c.args.nodes.now (map line_of c.loop-node.lines.items)
    (map line_of c.visit.new.lines.items) c.loop-node.waiting.items c.pop.new.self.items c.in-Some.node c.requires
    c.loop-node.invariant c.in-Some.ensures.items (search rules)

pub loop-node-preserved : goal.loop-node-preserved
loop-node-preserved c = loop_step c.args.branchings.now c.args.nodes.now (map line_of c.loop-node.lines.items)
    (map line_of c.visit.new.lines.items) c.loop-node.waiting.items c.pop.new.self.items c.visit.new.waiting.items
    c.in-Some.node c.loop-node.invariant c.in-Some.ensures.items (search rules) (search rules)
