use Rattle.std.proofs.Common.{subst}
use Rattle.std.specs.Prelude.{Some, None}
use Rattle.pesp_board.specs.Insides.{LendsNode}
use Rattle.pesp_board.proofs.Recalling.{recalled, not_recalled, is_parked, recalled_board}
use Rattle.pesp_board.proofs.board.Board.recall.Goals as goal

pub returns-in-None-clause-state : goal.returns-in-None-clause-state
returns-in-None-clause-state c = rw (← c.self.view_is)
    (not_recalled c.self.inside.tree c.self.inside.slots.items _ c.args.number
    (subst (λ xs. LendsNode xs c.args.number None) c.deref.ensures.value c.in-None.ensures))

pub returns-in-Some-clause-state : goal.returns-in-Some-clause-state
returns-in-Some-clause-state c = rw (← c.self.view_is)
    (recalled c.self.inside.tree c.self.inside.slots.items _ c.args.number _
    (subst (λ xs. LendsNode xs c.args.number (Some c.in-Some.node)) c.deref.ensures.value c.in-Some.ensures))

pub unpark-requires : goal.unpark-requires
unpark-requires c = is_parked c.self.inside.problem c.self.inside.tree c.self.inside.slots.items
    c.self.inside.queue c.self.inside.best c.self.inside.pairs c.args.number _ c.self.invariant
    (subst (λ xs. LendsNode xs c.args.number (Some c.in-Some.node)) c.deref.ensures.value c.in-Some.ensures)

pub invariant_of-self : goal.invariant_of-self
invariant_of-self c =
    recalled_board c.self.inside.problem c.self.inside.tree c.self.inside.slots.items c.self.inside.queue _
    c.self.inside.best c.self.inside.pairs c.args.number _ c.unpark.result c.self.invariant
    (subst (λ xs. LendsNode xs c.args.number (Some c.in-Some.node)) c.deref.ensures.value c.in-Some.ensures)
    c.items_differ.ensures c.unpark.ensures.parked c.unpark.ensures.waiting
