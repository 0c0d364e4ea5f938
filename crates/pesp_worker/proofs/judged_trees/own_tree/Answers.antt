use Rattle.pesp_worker.proofs.Judgments.{own_tree_fits}
use Rattle.pesp_worker.proofs.judged_trees.own_tree.Goals as goal

pub returns-clause-fits : goal.returns-clause-fits
returns-clause-fits c = own_tree_fits c.args.board.now.problem c.problem.result.now c.args.board.now.state
    c.args.number c.in-Some.field-0-0 c.in-Some.pairs.now c.in_ok-copy.copy c.one_line.result c.problem.ensures
    c.best-best.ensures.limits c.table-table.ensures.small c.best-best.ensures.orderly c.in-Some.ensures.told
    c.in_ok-copy.ensures c.one_line.ensures
