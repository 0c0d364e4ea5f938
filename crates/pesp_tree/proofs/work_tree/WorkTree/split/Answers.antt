use Rattle.std.proofs.Common.{◌+◌, ◌≤◌, sym, subst, arith, length}
use Rattle.std.specs.Prelude.{IsSome}
use Rattle.pesp_tree.specs.declared.node.Branching.{Branching}
use Rattle.pesp_tree.specs.WorkTrees.{leaf_at}
use Rattle.pesp_tree.specs.Numbered.{NodesAreNumbered}
use Rattle.pesp_tree.proofs.Holding.{whole, few_branchings, branching_fits, split_value, split_numbered}
use Rattle.pesp_tree.proofs.work_tree.WorkTree.split.Goals.{After-branch_off}
use Rattle.pesp_tree.proofs.work_tree.WorkTree.split.Goals as goal

pub branch_off-requires-clause-few : goal.branch_off-requires-clause-few
branch_off-requires-clause-few c = few_branchings c.self.inside.branchings.items c.self.inside.nodes.items c.self.invariant.numbered

pub branch_off-requires-clause-place : goal.branch_off-requires-clause-place
branch_off-requires-clause-place c =
    let count = c.self.inside.branchings.ok.0 in
    let fits = branching_fits c.self.inside.branchings.items c.self.inside.nodes.items c.self.inside.room _ _
    c.self.invariant (subst (λ t. length t.leaves + 2 ≤ t.room) (sym c.self.view_is) c.requires.room) in
    omega (arith, count, fits)

abbrev branching : After-branch_off → Branching
branching c = record { node = c.args.node; cut = c.args.cut }

numbered : (c : After-branch_off) → NodesAreNumbered c.branch_off.new.branchings.items c.branch_off.new.nodes.items
numbered c =
    let more = split_numbered c.self.inside.branchings.items c.self.inside.nodes.items
    (branching c) c.args.low c.args.high c.self.invariant.numbered
    (subst (λ t. IsSome (leaf_at t c.args.node)) (sym c.self.view_is) c.requires.leaf)
    (subst (λ t. length t.leaves + 2 ≤ 1000000) (sym c.self.view_is) c.requires.few) in
    rw (c.branch_off.ensures.branchings, c.branch_off.ensures.nodes) more

pub invariant_of-self : goal.invariant_of-self
invariant_of-self c =
    let pairs = c.self.invariant.pairs in
    let each = c.self.invariant.each in
    let memory = c.branch_off.ensures.memory in
    record { numbered = numbered c; pairs = omega (arith, pairs, memory.0); each = omega (arith, each, memory.1) }

pub returns-clause-tree : goal.returns-clause-tree
returns-clause-tree c =
    let is = split_value c.self.inside.branchings.items c.self.inside.nodes.items c.self.inside.room
    (branching c) c.args.low c.args.high c.self.invariant.numbered
    (subst (λ t. IsSome (leaf_at t c.args.node)) (sym c.self.view_is) c.requires.leaf) in
    rw (← c.self.view_is) (rw (c.branch_off.ensures.branchings, c.branch_off.ensures.nodes) is)

pub returns-clause-whole : goal.returns-clause-whole
returns-clause-whole c = whole _ _ _ (numbered c)
