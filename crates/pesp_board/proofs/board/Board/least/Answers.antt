use Rattle.pesp_board.specs.Insides.{times_of}
use Rattle.pesp_board.proofs.Leasts.{least_is}
use Rattle.pesp_board.proofs.board.Board.least.Goals as goal

pub returns-clause-value : goal.returns-clause-value
returns-clause-value c = rw (← c.self.view_is)
    (least_is c.self.inside.problem c.self.inside.tree c.self.inside.slots.items
    (times_of c.self.inside.best) c.self.inside.queue _ c.self.invariant.whole c.self.invariant.queue
    c.least.ensures.least)

pub returns-clause-orderly : goal.returns-clause-orderly
returns-clause-orderly c = rw (← c.self.view_is) c.self.invariant.orderly

pub returns-clause-limits : goal.returns-clause-limits
returns-clause-limits c = rw (← c.self.view_is) c.self.invariant.network
