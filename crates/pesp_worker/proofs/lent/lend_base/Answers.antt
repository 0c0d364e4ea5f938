use Rattle.pesp_worker.proofs.Lending.{spent_never}
use Rattle.pesp_worker.proofs.lent.lend_base.Goals as goal

pub unreachable-requires : goal.unreachable-requires
unreachable-requires c =
    let refusal = c.in-Err-NumbersSpent.field-0 in
    spent_never c.in_ok-board.board.problem c.in_ok-board.board.state c.lend_all.new.self.state refusal
    c.in-Err-NumbersSpent.field-0-is c.best.ensures.orderly.limits.small.lines
    c.in_ok-board.ensures.adopts.numbers c.in-Err-NumbersSpent.ensures.state
