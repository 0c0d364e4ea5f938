use Rattle.std.proofs.Common.{◌∙◌}
use Rattle.pesp_bound.proofs.Lifting.{grown_zeros}
use Rattle.pesp_bound.proofs.passes.settle.Goals as goal

pub settle_in-requires-clause-grown : goal.settle_in-requires-clause-grown
settle_in-requires-clause-grown c = grown_zeros c.args.edges.now c.args.events c.deref_mut.result.now
    c.deref_mut-2.result.now (c.deref_mut.ensures.value ∙ c.in_ok-level.ensures)
    (c.deref_mut-2.ensures.value ∙ c.in_ok-by.ensures)
