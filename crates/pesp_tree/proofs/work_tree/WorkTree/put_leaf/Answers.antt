use Rattle.std.proofs.Common.{subst, sym}
use Rattle.std.specs.Prelude.{IsSome}
use Rattle.pesp_tree.specs.WorkTrees.{leaf_at}
use Rattle.pesp_tree.proofs.Holding.{whole, put_numbered, put_value}
use Rattle.pesp_tree.proofs.work_tree.WorkTree.put_leaf.Goals as goal

pub invariant_of-self : goal.invariant_of-self
invariant_of-self c = record {
  numbered = put_numbered c.self.inside.branchings.items c.self.inside.nodes.items c.args.node c.args.leaf
      c.self.invariant.numbered (subst (λ t. IsSome (leaf_at t c.args.node)) (sym c.self.view_is) c.requires);
  pairs = c.self.invariant.pairs;
  each = c.self.invariant.each;
}

pub returns-clause-tree : goal.returns-clause-tree
returns-clause-tree c = rw (← c.self.view_is) (put_value c.self.inside.branchings.items c.self.inside.nodes.items
    c.self.inside.room c.args.node c.args.leaf c.self.invariant.numbered
    (subst (λ t. IsSome (leaf_at t c.args.node)) (sym c.self.view_is) c.requires))

pub returns-clause-whole : goal.returns-clause-whole
returns-clause-whole c = whole _ _ _ (put_numbered c.self.inside.branchings.items c.self.inside.nodes.items
    c.args.node c.args.leaf c.self.invariant.numbered
    (subst (λ t. IsSome (leaf_at t c.args.node)) (sym c.self.view_is) c.requires))
