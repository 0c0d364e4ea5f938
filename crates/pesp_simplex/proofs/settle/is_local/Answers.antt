use Rattle.std.proofs.Common.{ℕ, subst, sym}
use Rattle.pesp_problem.specs.ArcLimits.{KeepArcLimits}
use Rattle.pesp_propagate.specs.Rooted.{roots_of}
use Rattle.pesp_propagate.proofs.Locals.{cuts_are_local}
use Rattle.pesp_simplex.proofs.settle.is_local.Goals as goal

pub slacks_of-requires : goal.slacks_of-requires
slacks_of-requires c =
    subst (λ (k : ℕ). KeepArcLimits c.args.period k c.args.arcs.now) (sym c.requires.count) c.requires.limits

pub returns : goal.returns
returns c done forest tree =
    cuts_are_local c.args.events (record { period = c.args.period; arcs = c.args.arcs.now }) forest
    (roots_of c.args.rooted.now) c.args.times.now c.requires.limits.some_period c.requires.count
    c.requires.trees tree
    (c.are_cuts_best.ensures c.args.times.now c.args.events done c.requires.lists
    (rw c.deref.ensures.value c.in_ok-slacks.ensures) (rw c.in-Some.is at c.in_ok-cuts.ensures))
