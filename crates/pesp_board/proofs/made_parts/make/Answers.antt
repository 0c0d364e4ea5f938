use Rattle.std.proofs.Common.{subst}
use Rattle.pesp_problem.specs.Nodes.{Node}
use Rattle.pesp_tree.specs.declared.work.Work.TheVariants as works
use Rattle.pesp_board.specs.Giving.{MakesOf}
use Rattle.pesp_board.proofs.made_parts.make.Goals as goal

pub returns-in-Nothing : goal.returns-in-Nothing
returns-in-Nothing c = rw (c.in-Nothing.is) (subst
    (λ (n : Node). MakesOf c.args.problem.now n c.args.old.now
    (works.Nothing c.in-Nothing.pairs) c.make_nothing.result) c.in_ok-node.ensures.at
    (c.make_nothing.ensures c.args.old.now))

pub returns-in-Gap : goal.returns-in-Gap
returns-in-Gap c = rw (c.in-Gap.is) (subst (λ (n : Node).
    MakesOf c.args.problem.now n c.args.old.now (works.Gap c.in-Gap.cycle) c.make_gap.result)
    c.in_ok-node.ensures.at (c.make_gap.ensures c.args.old.now))

pub make_tree-requires-clause-node : goal.make_tree-requires-clause-node
make_tree-requires-clause-node c = record { path = c.args.path.now; at = c.in_ok-node.ensures.at; fits = c.in_ok-node.ensures.node }

pub returns-in-Propagated : goal.returns-in-Propagated
returns-in-Propagated c = rw (c.in-Propagated.is)
    (subst (λ (n : Node). MakesOf c.args.problem.now n c.args.old.now works.Propagated c.make_propagated.result)
    c.in_ok-node.ensures.at (c.make_propagated.ensures c.args.old.now))

pub make_branch-requires-clause-at : goal.make_branch-requires-clause-at
make_branch-requires-clause-at c = c.in_ok-node.ensures.at

pub returns-in-Split : goal.returns-in-Split
returns-in-Split c = rw (c.in-Split.is) (subst
    (λ (n : Node). MakesOf c.args.problem.now n c.args.old.now (works.Split c.in-Split.cut) c.make_branch.result)
    c.in_ok-node.ensures.at c.make_branch.ensures)

pub returns-in-Tree : goal.returns-in-Tree
returns-in-Tree c = rw (c.in-Tree.is) (subst (λ (n : Node).
    MakesOf c.args.problem.now n c.args.old.now (works.Tree c.in-Tree.lines) c.make_tree.result)
    c.in_ok-node.ensures.at c.make_tree.ensures)
