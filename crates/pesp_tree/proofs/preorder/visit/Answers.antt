use Rattle.std.proofs.Common.{rules, ◌≡◌, ◌∙◌, slice_index_or}
use Rattle.pesp_tree.specs.declared.node.Kept.TheVariants.{Leaf as KeptLeaf, Branched}
use Rattle.pesp_tree.specs.Numbered.{no_node}
use Rattle.pesp_tree.proofs.Walking.{read_kept, no_parts, two_parts}
use Rattle.pesp_tree.proofs.preorder.visit.Goals as goal

pub returns-in_ok-push-in-Leaf-clause-waiting : goal.returns-in_ok-push-in-Leaf-clause-waiting
returns-in_ok-push-in-Leaf-clause-waiting c =
    let leaf : slice_index_or c.args.nodes.now c.args.node no_node
    ≡ KeptLeaf c.in-Leaf.leaf = read_kept c.args.nodes.now c.args.node c.index-nodes-node.result
    c.requires.node.0 c.index-nodes-node.is ∙ c.in-Leaf.is in
    no_parts c.args.nodes.now c.args.node c.in-Leaf.leaf c.args.waiting.now.items leaf

pub returns-in_ok-push-in-Branched-3-clause-waiting : goal.returns-in_ok-push-in-Branched-3-clause-waiting
returns-in_ok-push-in-Branched-3-clause-waiting c =
    let place : slice_index_or c.args.nodes.now c.args.node no_node
    ≡ Branched c.in-Branched.place = read_kept c.args.nodes.now c.args.node c.index-nodes-node.result
    c.requires.node.0 c.index-nodes-node.is ∙ c.in-Branched.is in
    two_parts c.args.nodes.now c.args.node c.in-Branched.place c.args.waiting.now.items
    c.push-in-Branched-2.new.self.items c.push-in-Branched-3.new.self.items place (search rules) (search rules)
