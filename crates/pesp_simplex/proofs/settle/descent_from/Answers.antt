use Rattle.std.proofs.Common.{ℕ, subst, sym}
use Rattle.pesp_problem.specs.ArcLimits.{KeepArcLimits}
use Rattle.pesp_simplex.proofs.settle.descent_from.Goals as goal

pub slacks_of-requires : goal.slacks_of-requires
slacks_of-requires c =
    subst (λ (k : ℕ). KeepArcLimits c.args.period k c.args.arcs.now) (sym c.requires.times.count) c.requires.limits
