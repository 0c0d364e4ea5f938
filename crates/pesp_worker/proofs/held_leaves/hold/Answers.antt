use Rattle.pesp_worker.proofs.Holds.{held_cuts, held_is}
use Rattle.pesp_worker.proofs.held_leaves.hold.Goals as goal

pub node_along-requires : goal.node_along-requires
node_along-requires c = held_cuts c.args.board.now.problem c.lend_next.new.board.problem c.problem.result.now
    c.args.board.now.state c.lend_next.new.board.state c.in-Some.job c.in_ok-job.field-0 c.deref.result.now
    c.in_ok-job.ensures.problem c.problem.ensures c.best-best.ensures.orderly c.in-Some.is
    c.in_ok-job.ensures.lends c.deref.ensures.value

pub returns-clause-held : goal.returns-clause-held
returns-clause-held c = held_is c.args.board.now.problem c.lend_next.new.board.problem c.problem.result.now
    c.lend_next.new.board.state _ c.in-Some-job_leaf.field-0-0 c.deref.result.now c.in-Some-job_leaf.pairs.now
    c.in_ok-job.ensures.problem c.problem.ensures c.best-best.ensures.orderly c.in_ok-node.ensures.at
    c.in_ok-node.ensures.node c.in-Some-job_leaf.ensures.told c.in_ok-pairs.ensures
