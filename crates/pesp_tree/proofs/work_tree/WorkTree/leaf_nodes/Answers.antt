use Rattle.pesp_tree.proofs.Holding.{whole}
use Rattle.pesp_tree.proofs.work_tree.WorkTree.leaf_nodes.Goals as goal

pub returns-clause-whole : goal.returns-clause-whole
returns-clause-whole c = rw (← c.self.view_is)
    (whole c.self.inside.branchings.items c.self.inside.nodes.items c.self.inside.room c.self.invariant.numbered)
