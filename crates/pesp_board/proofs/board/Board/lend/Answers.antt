use Rattle.std.proofs.Common.{sym, ◌∙◌}
use Rattle.std.proofs.lemmas.Bool.{false≢true}
use Rattle.pesp_board.proofs.Lent.{none_waiting, lends, lends_first, lends_cuts, board_with_job, same_slots, unlent_board, first_within, first_parked}
use Rattle.pesp_board.proofs.board.Board.lend.Goals as goal

pub returns-in_default-clause-state : goal.returns-in_default-clause-state
returns-in_default-clause-state c = rw (← c.self.view_is)
    (none_waiting c.self.inside.problem c.self.inside.tree c.self.inside.slots.items c.self.inside.queue
    c.self.inside.best c.self.inside.pairs c.self.invariant c.in_default.ensures.first)

pub lend_entry-reply-requires : goal.lend_entry-reply-requires
lend_entry-reply-requires c = first_within c.self.inside.problem c.self.inside.tree c.self.inside.slots.items
    c.self.inside.queue c.self.inside.best c.self.inside.pairs c.in-Some.first c.self.invariant
    c.in-Some.ensures.first

pub unpark-requires : goal.unpark-requires
unpark-requires c = first_parked c.self.inside.queue c.park.new.self c.in-Some.first
    (record { waiting = c.in-Some.ensures.waiting; parked = c.in-Some.ensures.parked })

pub invariant_of-self-then-is_lent : goal.invariant_of-self-then-is_lent
invariant_of-self-then-is_lent c =
    board_with_job c.self.inside.problem c.self.inside.tree c.self.inside.slots.items
    c.lend_entry-reply.new.slots.items c.self.inside.queue c.park.new.self c.self.inside.best
    c.self.inside.pairs c.in-Some.first c.lend_entry-reply.result
    (c.is_lent.ensures.0 c.if-is_lent.true) c.self.invariant c.items_differ.ensures c.in-Some.ensures.first
    (record { waiting = c.in-Some.ensures.waiting; parked = c.in-Some.ensures.parked })
    c.lend_entry-reply.ensures

pub returns-then-is_lent-clause-state : goal.returns-then-is_lent-clause-state
returns-then-is_lent-clause-state c = rw (← c.self.view_is)
    (lends c.self.inside.problem c.self.inside.tree c.self.inside.slots.items c.lend_entry-reply.new.slots.items
    c.self.inside.queue c.self.inside.best c.self.inside.pairs c.in-Some.first c.lend_entry-reply.result
    c.self.invariant c.items_differ.ensures c.in-Some.ensures.first c.lend_entry-reply.ensures)

pub returns-then-is_lent-clause-first : goal.returns-then-is_lent-clause-first
returns-then-is_lent-clause-first c = rw (← c.self.view_is)
    (lends_first c.self.inside.problem c.self.inside.tree c.self.inside.slots.items
    c.lend_entry-reply.new.slots.items c.self.inside.queue c.self.inside.best c.self.inside.pairs c.in-Some.first
    c.lend_entry-reply.result c.self.invariant c.items_differ.ensures c.in-Some.ensures.first
    c.lend_entry-reply.ensures)

pub invariant_of-self-2 : goal.invariant_of-self-2
invariant_of-self-2 c =
    unlent_board c.self.inside.problem c.self.inside.tree c.self.inside.slots.items
    c.lend_entry-reply.new.slots.items c.self.inside.queue c.park.new.self c.unpark.new.self c.self.inside.best
    c.self.inside.pairs c.in-Some.first c.unpark.result c.self.invariant c.items_differ.ensures
    c.items_differ-2.ensures (record { waiting = c.in-Some.ensures.waiting; parked = c.in-Some.ensures.parked })
    (same_slots c.self.inside.tree c.self.inside.best c.self.inside.slots.items c.lend_entry-reply.new.slots.items
    c.in-Some.first c.lend_entry-reply.result (λ h.
    false≢true (sym c.if-is_lent.false ∙ c.is_lent.ensures.1 h)) c.lend_entry-reply.ensures)
    c.unpark.ensures.parked c.unpark.ensures.waiting

pub returns-clause-state : goal.returns-clause-state
returns-clause-state c = rw (← c.self.view_is)
    (lends c.self.inside.problem c.self.inside.tree c.self.inside.slots.items c.lend_entry-reply.new.slots.items
    c.self.inside.queue c.self.inside.best c.self.inside.pairs c.in-Some.first c.lend_entry-reply.result
    c.self.invariant c.items_differ.ensures c.in-Some.ensures.first c.lend_entry-reply.ensures)

pub returns-clause-first : goal.returns-clause-first
returns-clause-first c = rw (← c.self.view_is)
    (lends_first c.self.inside.problem c.self.inside.tree c.self.inside.slots.items
    c.lend_entry-reply.new.slots.items c.self.inside.queue c.self.inside.best c.self.inside.pairs c.in-Some.first
    c.lend_entry-reply.result c.self.invariant c.items_differ.ensures c.in-Some.ensures.first
    c.lend_entry-reply.ensures)

pub returns-then-is_lent-clause-cuts : goal.returns-then-is_lent-clause-cuts
returns-then-is_lent-clause-cuts c = rw (← c.self.view_is)
    (lends_cuts c.self.inside.problem c.self.inside.tree c.self.inside.slots.items
    c.lend_entry-reply.new.slots.items c.self.inside.queue c.self.inside.best c.self.inside.pairs c.in-Some.first
    c.lend_entry-reply.result c.self.invariant c.in-Some.ensures.first c.lend_entry-reply.ensures)

pub returns-clause-cuts : goal.returns-clause-cuts
returns-clause-cuts c = rw (← c.self.view_is) (lends_cuts c.self.inside.problem c.self.inside.tree
    c.self.inside.slots.items c.lend_entry-reply.new.slots.items c.self.inside.queue c.self.inside.best
    c.self.inside.pairs c.in-Some.first c.lend_entry-reply.result c.self.invariant c.in-Some.ensures.first
    c.lend_entry-reply.ensures)
