use Rattle.pesp_turns.proofs.Looks.{lent_cuts, lent_pairs}
use Rattle.pesp_turns.proofs.second_look.work_for.Goals as goal

pub node_along-requires : goal.node_along-requires
node_along-requires c = lent_cuts c.args.board.now.problem c.problem-problem.result.now c.args.board.now.state
    c.args.job.now c.deref.result.now c.problem-problem.ensures c.deref.ensures.value c.requires

pub best_leaf_from-requires-clause-start : goal.best_leaf_from-requires-clause-start
best_leaf_from-requires-clause-start c = lent_pairs c.args.board.now.problem c.problem-problem.result.now
    c.args.board.now.state c.args.job.now c.in-Some.value c.in-Some.pairs.now c.problem-problem.ensures c.requires
    c.in-Some.ensures.told
