use Rattle.std.proofs.Common.{refl}
use Rattle.pesp_worker.proofs.Judgments.{taken_is}
use Rattle.pesp_worker.proofs.Staying.{given_keeps}
use Rattle.pesp_worker.proofs.judged_trees.taken.Goals as goal

pub returns-then-not-taken-clause-others : goal.returns-then-not-taken-clause-others
returns-then-not-taken-clause-others c = given_keeps c.args.board.now.problem c.args.board.now.state
    c.give.new.self.state c.args.number _ c.give.result c.best-best.ensures.orderly.lent c.give.ensures.state

pub returns-clause-fits : goal.returns-clause-fits
returns-clause-fits c = taken_is c.args.board.now.problem c.problem.result.now c.args.board.now.state
    c.give.new.self.state c.args.number c.args.lines c.give.result c.lines_in.result c.problem.ensures
    c.best-best.ensures.limits c.table-table.ensures.small
    (c.in_ok-taken.ensures c.if-not-taken.false) c.give.ensures.state (c.lines_in.ensures c.args.lines refl)

pub returns-clause-others : goal.returns-clause-others
returns-clause-others c = given_keeps c.args.board.now.problem c.args.board.now.state c.give.new.self.state
    c.args.number _ c.give.result c.best-best.ensures.orderly.lent c.give.ensures.state
