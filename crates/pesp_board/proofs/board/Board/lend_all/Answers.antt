use Rattle.std.specs.Prelude.{Ok, Err}
use Rattle.pesp_board.proofs.LentAll.{opens_read, lends_told, lends_all, all_lent_board}
use Rattle.pesp_board.proofs.board.Board.lend_all.Goals as goal

pub returns-in_err-jobs-clause-state : goal.returns-in_err-jobs-clause-state
returns-in_err-jobs-clause-state c =
    rw (← c.self.view_is) (lends_told c.self.inside.problem _ _ c.from_residual-in_err-jobs.result
    c.in_err-jobs.field-0.0 c.from_residual-in_err-jobs.ensures.1
    (lends_all c.self.inside.problem c.self.inside.tree c.self.inside.slots.items c.self.inside.queue
    c.self.inside.best c.self.inside.pairs c.self.invariant c.items_differ.ensures c.deref.result.now
    (opens_read c.self.inside.tree c.self.inside.queue c.self.inside.best c.in_ok-nodes.nodes.items
    c.deref.result.now c.deref.ensures.value c.in_ok-nodes.ensures.opens)
    (Err c.in_err-jobs.field-0.0) c.lend_nodes.new.slots.items c.in_err-jobs.ensures))

pub invariant_of-self-2 : goal.invariant_of-self-2
invariant_of-self-2 c = all_lent_board c.self.inside.problem c.self.inside.tree c.self.inside.slots.items
    c.self.inside.queue c.self.inside.best c.self.inside.pairs c.self.invariant c.items_differ.ensures
    c.deref.result.now (opens_read c.self.inside.tree c.self.inside.queue c.self.inside.best
    c.in_ok-nodes.nodes.items c.deref.result.now c.deref.ensures.value c.in_ok-nodes.ensures.opens)
    c.in_ok-jobs.jobs c.lend_nodes.new.slots.items c.park_open.new.queue c.in_ok-jobs.ensures c.park_open.ensures

pub returns-clause-state : goal.returns-clause-state
returns-clause-state c = rw (← c.self.view_is)
    (lends_all c.self.inside.problem c.self.inside.tree c.self.inside.slots.items c.self.inside.queue
    c.self.inside.best c.self.inside.pairs c.self.invariant c.items_differ.ensures c.deref.result.now
    (opens_read c.self.inside.tree c.self.inside.queue c.self.inside.best c.in_ok-nodes.nodes.items
    c.deref.result.now c.deref.ensures.value c.in_ok-nodes.ensures.opens)
    (Ok c.in_ok-jobs.jobs) c.lend_nodes.new.slots.items c.in_ok-jobs.ensures)
