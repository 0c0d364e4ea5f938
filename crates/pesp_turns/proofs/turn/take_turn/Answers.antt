use Rattle.pesp_turns.proofs.Turned.{lent_from, turned}
use Rattle.pesp_turns.proofs.turn.take_turn.Goals as goal

pub returns-in-Ok-Some-clause-turn : goal.returns-in-Ok-Some-clause-turn
returns-in-Ok-Some-clause-turn g c =
    let p = c.args.board.now.problem in
    let lent = lent_from p c.problem.result.now c.args.board.now.state c.lend.new.self.state c.in-Ok-Some.job
    c.problem.ensures c.keeps_limits.ensures.network c.keeps_limits.ensures.table c.best.ensures.orderly
    (rw c.in-Ok-Some.field-0-is at c.in-Ok-Some.ensures.state) in
    turned p c.lend.new.self.problem c.args.known.now.reduced c.args.board.now.state c.lend.new.self.state _
    c.in-Ok-Some.job c.turn_on.result c.lend.ensures.problem lent c.turn_on.ensures.turn
