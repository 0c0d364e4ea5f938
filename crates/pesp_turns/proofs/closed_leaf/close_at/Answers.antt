use Rattle.pesp_turns.proofs.Turned.{gap_turn, settled_here, settled_turn}
use Rattle.pesp_turns.proofs.closed_leaf.close_at.Goals as goal

pub returns-in-Some-clause-turn : goal.returns-in-Some-clause-turn
returns-in-Some-clause-turn c lent = gap_turn c.args.board.now.problem c.args.reduced.now c.args.board.now.state
    c.close_leaf.new.board.state c.args.job.now c.in-Some.cycle c.in_ok-taken.taken c.closed.result lent
    c.closed.ensures c.in_ok-taken.ensures.given

pub returns-clause-turn : goal.returns-clause-turn
returns-clause-turn c lent =
    let left = rw (c.in_default.is) at c.gap_at.ensures in
    let here = settled_here c.args.board.now.problem c.problem.result.now c.args.reduced.now c.args.node.now
    c.args.board.now.state c.settle.new.board.state c.args.job.now c.in_ok-found.found lent c.requires.at
    c.problem.ensures c.requires.settled left c.in_ok-found.ensures.settles in
    settled_turn c.args.board.now.problem c.args.reduced.now lent.before c.settle.new.board.state
    c.in_ok-found.found c.settled.result c.settled.ensures here
