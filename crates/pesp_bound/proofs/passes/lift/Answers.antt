use Rattle.std.proofs.Common.{arith, refl}
use Rattle.pesp_bound.specs.Settling.{edge_at}
use Rattle.pesp_bound.proofs.Lifting.{lifted_lists}
use Rattle.pesp_bound.proofs.passes.lift.Goals as goal

pub returns-clause-grown : goal.returns-clause-grown
returns-clause-grown c =
    let e = edge_at c.args.edges.now c.args.k in
    let a = c.requires.start in
    let same = c.requires.events in
    let ensures = c.saturating_sub-wanted.ensures in
    let above = c.if-wanted-level.false in
    lifted_lists c.args.edges.now c.args.level.now c.args.by.now c.args.k e.start c.saturating_sub-wanted.result
    c.requires.edge c.requires.grown refl a (omega (arith, a, same)) above
    (omega (arith, ensures, above))
