use Rattle.pesp_tree.specs.declared.refusal.GiveRefusal.TheVariants.{Memory}
use Rattle.pesp_board.specs.Insides.{times_of}
use Rattle.pesp_board.proofs.Giving.{lent_is, workable, is_lent_parked, none_beyond, parts_shape, lines_fit, not_made, no_memory, told_as, same_board, given, given_board}
use Rattle.pesp_board.proofs.board.Board.give.Goals as goal

pub make_at-requires : goal.make_at-requires
make_at-requires c = workable c.self.inside.problem c.self.inside.tree c.self.inside.slots.items
    c.self.inside.queue c.self.inside.best c.self.inside.pairs c.args.number c.in_ok-node.node c.self.invariant
    (lent_is c.deref.result.now c.self.inside.slots.items c.args.number c.in_ok-node.node c.deref.ensures.value
    c.in_ok-node.ensures)

pub returns-in_err-parts-clause-state : goal.returns-in_err-parts-clause-state
returns-in_err-parts-clause-state c =
    let lent = lent_is c.deref.result.now c.self.inside.slots.items c.args.number c.in_ok-node.node
    c.deref.ensures.value c.in_ok-node.ensures in
    rw (← c.self.view_is) (told_as c.self.inside.problem _ _ c.args.number c.args.work.now
    c.from_residual-in_err-parts.result c.in_err-parts.field-0.0 c.from_residual-in_err-parts.ensures.1
    (not_made c.self.inside.problem c.self.inside.tree c.self.inside.slots.items c.self.inside.pairs
    (times_of c.self.inside.best) c.args.number c.in_ok-node.node c.args.work.now c.in_err-parts.field-0.0
    c.self.invariant.whole lent
    (workable c.self.inside.problem c.self.inside.tree c.self.inside.slots.items c.self.inside.queue
    c.self.inside.best c.self.inside.pairs c.args.number c.in_ok-node.node c.self.invariant lent)
    c.in_err-parts.ensures))

pub take-requires-clause-shape : goal.take-requires-clause-shape
take-requires-clause-shape c = parts_shape c.self.inside.problem c.self.inside.tree c.in_ok-node.node
    c.in_ok-parts.pairs c.args.work.now c.in_ok-parts.parts.items c.in_ok-parts.ensures

pub take-requires-clause-room : goal.take-requires-clause-room
take-requires-clause-room c = lines_fit c.self.inside.problem c.self.inside.tree c.in_ok-node.node
    c.in_ok-parts.pairs c.args.work.now c.in_ok-parts.parts.items c.self.invariant.whole c.in_ok-parts.ensures

pub take-requires-clause-parked : goal.take-requires-clause-parked
take-requires-clause-parked c = is_lent_parked c.self.inside.problem c.self.inside.tree c.self.inside.slots.items
    c.self.inside.queue c.args.number c.in_ok-node.node c.self.invariant.queue
    (lent_is c.deref.result.now c.self.inside.slots.items c.args.number c.in_ok-node.node c.deref.ensures.value
    c.in_ok-node.ensures)

pub take-requires-clause-beyond : goal.take-requires-clause-beyond
take-requires-clause-beyond c = none_beyond c.self.inside.problem c.self.inside.tree c.self.inside.slots.items
    c.self.inside.queue c.self.invariant.queue

pub invariant_of-self : goal.invariant_of-self
invariant_of-self c = same_board c.self.inside.problem c.self.inside.tree c.take.new.tree c.self.inside.slots.items
    c.self.inside.queue c.take.new.queue c.self.inside.best c.self.inside.pairs c.self.invariant
    c.in_err-take.ensures.same_tree c.in_err-take.ensures.same_queue

pub returns-in_err-take-clause-state : goal.returns-in_err-take-clause-state
returns-in_err-take-clause-state c =
    rw (← c.self.view_is) (told_as c.self.inside.problem _ _ c.args.number c.args.work.now
    c.from_residual-in_err-take.result Memory c.from_residual-in_err-take.ensures.1
    (no_memory c.self.inside.problem c.self.inside.tree c.take.new.tree c.self.inside.slots.items
    (times_of c.self.inside.best) c.args.number c.in_ok-node.node c.args.work.now
    (lent_is c.deref.result.now c.self.inside.slots.items c.args.number c.in_ok-node.node c.deref.ensures.value
    c.in_ok-node.ensures) c.in_err-take.ensures.same_tree))

pub invariant_of-self-2 : goal.invariant_of-self-2
invariant_of-self-2 c = given_board c.self.inside.problem c.self.inside.tree c.take.new.tree
    c.self.inside.slots.items c.self.inside.queue c.take.new.queue c.self.inside.best c.self.inside.pairs
    c.in_ok-parts.pairs c.args.number c.in_ok-node.node c.args.work.now c.in_ok-parts.parts.items c.self.invariant
    (lent_is c.deref.result.now c.self.inside.slots.items c.args.number c.in_ok-node.node c.deref.ensures.value
    c.in_ok-node.ensures) c.items_differ.ensures c.in_ok-parts.ensures c.in_ok-take.ensures.planted
    c.in_ok-take.ensures.whole

pub returns-clause-state : goal.returns-clause-state
returns-clause-state c = rw (← c.self.view_is)
    (given c.self.inside.problem c.self.inside.tree c.take.new.tree c.self.inside.slots.items c.self.inside.queue
    c.take.new.queue c.self.inside.best c.self.inside.pairs c.in_ok-parts.pairs c.args.number c.in_ok-node.node
    c.args.work.now c.in_ok-parts.parts.items tt c.self.invariant
    (lent_is c.deref.result.now c.self.inside.slots.items c.args.number c.in_ok-node.node c.deref.ensures.value
    c.in_ok-node.ensures) c.in_ok-parts.ensures c.in_ok-take.ensures.planted)
