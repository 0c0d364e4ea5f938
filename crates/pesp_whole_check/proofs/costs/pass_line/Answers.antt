use Rattle.pesp_whole_check.proofs.costs.pass_line.Goals as goal

pub returns-in-Leaf-clause-shown : goal.returns-in-Leaf-clause-shown
returns-in-Leaf-clause-shown g c walks claim nets tells = rw c.in-Leaf.is (c.pass_leaf.ensures.shown walks claim nets tells)
