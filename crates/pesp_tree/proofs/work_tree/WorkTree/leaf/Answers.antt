use Rattle.pesp_tree.proofs.Holding.{whole}
use Rattle.pesp_tree.proofs.work_tree.WorkTree.leaf.Goals as goal

pub returns-in-Leaf-clause-whole : goal.returns-in-Leaf-clause-whole
returns-in-Leaf-clause-whole c = rw (← c.self.view_is)
    (whole c.self.inside.branchings.items c.self.inside.nodes.items c.self.inside.room c.self.invariant.numbered)

pub returns-in-Branched-clause-whole : goal.returns-in-Branched-clause-whole
returns-in-Branched-clause-whole c = rw (← c.self.view_is)
    (whole c.self.inside.branchings.items c.self.inside.nodes.items c.self.inside.room c.self.invariant.numbered)
