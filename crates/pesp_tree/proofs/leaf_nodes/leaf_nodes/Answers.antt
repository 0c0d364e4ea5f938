use Rattle.std.proofs.Common.{rules, ◌≡◌, [], ◌∷◌, reverse, arith, refl}
use Rattle.pesp_tree.proofs.Holding.{few_branchings}
use Rattle.pesp_tree.proofs.Ordering.{noted_none, next_within, next_place, some_left, noted_more, noted_paths, noted_leaves}
use Rattle.pesp_tree.proofs.leaf_nodes.leaf_nodes.Goals as goal

pub loop-node-init : goal.loop-node-init
loop-node-init c =
    let none : c.new-leaves.result.items ≡ [] = search rules in
    let first : reverse c.push.new.self.items ≡ 0 ∷ [] = search rules in
    rw none (rw first (noted_none c.args.branchings.now c.args.nodes.now _ c.requires refl))

pub overflow_sub-left : goal.overflow_sub-left
overflow_sub-left c = some_left c.args.branchings.now c.args.nodes.now c.loop-node.leaves.items
    c.loop-node.waiting.items c.pop.new.self.items c.loop-node.left c.in-Some.node c.loop-node.invariant
    c.in-Some.ensures.items

pub note-requires-clause-node : goal.note-requires-clause-node
note-requires-clause-node c = next_within c.args.branchings.now c.args.nodes.now c.loop-node.leaves.items
    c.loop-node.waiting.items c.pop.new.self.items c.loop-node.left c.in-Some.node c.loop-node.invariant
    c.in-Some.ensures.items

pub note-requires-clause-places : goal.note-requires-clause-places
note-requires-clause-places c =
    next_place c.args.branchings.now c.args.nodes.now c.loop-node.leaves.items c.loop-node.waiting.items
    c.pop.new.self.items c.loop-node.left c.in-Some.node c.loop-node.invariant c.in-Some.ensures.items
    (few_branchings c.args.branchings.now c.args.nodes.now c.requires)

pub loop-node-smaller : goal.loop-node-smaller
loop-node-smaller c =
    let some = some_left c.args.branchings.now c.args.nodes.now c.loop-node.leaves.items c.loop-node.waiting.items
    c.pop.new.self.items c.loop-node.left c.in-Some.node c.loop-node.invariant c.in-Some.ensures.items in
    omega (arith, some)

pub loop-node-preserved : goal.loop-node-preserved
loop-node-preserved c =
    noted_more c.args.branchings.now c.args.nodes.now c.loop-node.leaves.items c.loop-node.waiting.items
    c.pop.new.self.items c.loop-node.left c.in-Some.node c.loop-node.invariant c.in-Some.ensures.items
    c.note.new.leaves.items c.note.new.waiting.items _ refl (search rules) (search rules)

pub returns-clause-paths : goal.returns-clause-paths
returns-clause-paths c = noted_paths c.args.branchings.now c.args.nodes.now c.loop-node.leaves.items
    c.loop-node.waiting.items c.loop-node.left c.requires c.loop-node.invariant (search rules)

pub returns-clause-leaves : goal.returns-clause-leaves
returns-clause-leaves c = noted_leaves c.args.branchings.now c.args.nodes.now c.loop-node.leaves.items
    c.loop-node.waiting.items c.loop-node.left c.requires c.loop-node.invariant (search rules)
