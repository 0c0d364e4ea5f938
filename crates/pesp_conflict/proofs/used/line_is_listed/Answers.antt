use Rattle.std.proofs.Common.{List, subst, sym}
use Rattle.std.specs.Prelude.{All}
use Rattle.pesp_problem.specs.declared.pair.Pair.{Pair}
use Rattle.pesp_truth.specs.Used.{CycleIsListed, LineUsesOnly}
use Rattle.pesp_conflict.proofs.used.line_is_listed.Goals as goal

pub returns-in-Bound : goal.returns-in-Bound
returns-in-Bound c rows w t = subst (LineUsesOnly rows c.args.cycles.now c.args.listed.now) (sym c.in-Bound.is)
    (subst (λ (pairs : List Pair). All (λ (pair : Pair).
    CycleIsListed c.args.cycles.now c.args.listed.now pair.cycle) pairs) c.as_slice.ensures
    (c.pairs_are_listed.ensures t))

pub returns-in-Nothing : goal.returns-in-Nothing
returns-in-Nothing c rows w t = subst (LineUsesOnly rows c.args.cycles.now c.args.listed.now) (sym c.in-Nothing.is)
    (subst (λ (pairs : List Pair). All (λ (pair : Pair).
    CycleIsListed c.args.cycles.now c.args.listed.now pair.cycle) pairs) c.as_slice-in-Nothing.ensures
    (c.pairs_are_listed-in-Nothing.ensures t))

pub returns-in-Propagated : goal.returns-in-Propagated
returns-in-Propagated c rows whole t = subst (LineUsesOnly rows c.args.cycles.now c.args.listed.now)
    (sym c.in-Propagated.is) (whole t)
