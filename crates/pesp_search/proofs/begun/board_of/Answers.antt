use Rattle.pesp_search.proofs.Beginnings.{new_board}
use Rattle.pesp_search.proofs.begun.board_of.Goals as goal

pub returns-clause-board : goal.returns-clause-board
returns-clause-board c =
    let p = c.in_ok-problem.ensures in
    new_board c.args.instance.now c.args.reduced.now c.in_ok-problem.problem c.in_ok-board.board
    c.in_ok-board.ensures p.of p.searched p.frugal p.few
