use Rattle.std.proofs.Common.{subst}
use Rattle.std.specs.Prelude.{Some, None}
use Rattle.pesp_board.specs.Insides.{times_of, LendsNode}
use Rattle.pesp_board.proofs.Paths.{leaf_pairs}
use Rattle.pesp_board.proofs.Telling.{none_told, leaf_told, not_parked, no_pairs_there, lent_leaf_is}
use Rattle.pesp_board.proofs.board.Board.job_leaf.Goals as goal

pub returns-in_default-clause-told : goal.returns-in_default-clause-told
returns-in_default-clause-told c = rw (← c.self.view_is)
    (none_told c.self.inside.problem c.self.inside.tree c.self.inside.slots.items
    (times_of c.self.inside.best) c.args.number (subst
    (λ xs. LendsNode xs c.args.number None) c.deref.ensures.value c.in_default.ensures))

pub returns-in_default-parked_value-clause-told : goal.returns-in_default-parked_value-clause-told
returns-in_default-parked_value-clause-told c =
    rw (← c.self.view_is) (not_parked c.self.inside.problem c.self.inside.tree c.self.inside.slots.items
    c.self.inside.queue c.self.inside.best c.self.inside.pairs c.args.number c.in-Some.node c.self.invariant
    (subst (λ xs. LendsNode xs c.args.number (Some c.in-Some.node)) c.deref.ensures.value c.in-Some.ensures)
    c.in_default-parked_value.ensures.value)

pub bound_pairs-requires : goal.bound_pairs-requires
bound_pairs-requires c = (lent_leaf_is c.self.inside.problem c.self.inside.tree c.self.inside.slots.items
    c.self.inside.queue c.self.inside.best c.self.inside.pairs c.args.number c.in-Some.node c.self.invariant
    (subst (λ xs. LendsNode xs c.args.number (Some c.in-Some.node)) c.deref.ensures.value c.in-Some.ensures)).2

pub returns-in_default-bound_pairs-clause-told : goal.returns-in_default-bound_pairs-clause-told
returns-in_default-bound_pairs-clause-told c =
    rw (← c.self.view_is) (no_pairs_there c.self.inside.problem c.self.inside.tree c.self.inside.slots.items
    c.self.inside.queue c.self.inside.best c.self.inside.pairs c.args.number c.in-Some.node c.self.invariant
    (subst (λ xs. LendsNode xs c.args.number (Some c.in-Some.node)) c.deref.ensures.value c.in-Some.ensures)
    c.in_default-bound_pairs.ensures)

pub returns-clause-told : goal.returns-clause-told
returns-clause-told c = rw (← c.self.view_is) (leaf_told c.self.inside.problem c.self.inside.tree
    c.self.inside.slots.items c.self.inside.queue c.self.inside.best c.self.inside.pairs c.args.number
    c.in-Some.node c.in-Some-parked_value.value _ c.self.invariant
    (subst (λ xs. LendsNode xs c.args.number (Some c.in-Some.node)) c.deref.ensures.value c.in-Some.ensures)
    c.in-Some-parked_value.ensures.value c.in-Some-bound_pairs.ensures)

pub returns-clause-pairs : goal.returns-clause-pairs
returns-clause-pairs c = rw (← c.self.view_is)
    (leaf_pairs c.self.inside.problem c.self.inside.tree c.in-Some.node _ c.self.invariant.whole
    c.self.invariant.orderly.limits c.in-Some-bound_pairs.ensures)
