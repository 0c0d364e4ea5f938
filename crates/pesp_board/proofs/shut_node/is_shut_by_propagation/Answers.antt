use Rattle.pesp_board.proofs.Supported.{told_ok}
use Rattle.pesp_board.proofs.shut_node.is_shut_by_propagation.Goals as goal

pub returns : goal.returns
returns c = told_ok c.args.problem.now c.args.node.now c.network.result.now c.slacks.result.now
    c.supports_none.result c.keeps_limits.ensures.network c.network.ensures.network c.slacks.ensures.slacks
    c.supports_none.ensures
