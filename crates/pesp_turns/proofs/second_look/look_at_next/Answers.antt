use Rattle.pesp_turns.proofs.Looks.{lent_to, grows_after}
use Rattle.pesp_turns.proofs.ResumeEndings.{one_look}
use Rattle.pesp_turns.proofs.second_look.look_at_next.Goals as goal

pub look_at-requires : goal.look_at-requires
look_at-requires c = lent_to c.args.board.now.problem c.lend_next.new.board.problem c.problem.result.now
    c.args.board.now.state c.lend_next.new.board.state c.in-Lent.job c.in_ok-job.ensures.problem c.problem.ensures
    c.best.ensures.limits c.keeps_limits.ensures.table c.best.ensures.orderly
    (rw c.in-Lent.is at c.in_ok-job.ensures.next)

pub returns-clause-grows : goal.returns-clause-grows
returns-clause-grows c = grows_after c.args.board.now.problem c.lend_next.new.board.problem 0 0
    c.args.board.now.state c.lend_next.new.board.state c.look_at.new.board.state c.in_ok-job.ensures.problem
    c.in_ok-job.ensures.grows c.in_ok-look_at.ensures.grows

pub returns-clause-look : goal.returns-clause-look
returns-clause-look c = one_look c.args.board.now.problem c.args.board.now.state c.lend_next.new.board.state
    c.look_at.new.board.state c.in-Lent.job (rw c.in-Lent.is at c.in_ok-job.ensures.next) c.look_at.ensures.numbers
