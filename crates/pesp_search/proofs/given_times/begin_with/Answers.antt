use Rattle.std.proofs.Common.{sym, subst}
use Rattle.pesp_problem.specs.Timetables.{Pesp, IsTimetable}
use Rattle.pesp_search.proofs.given_times.begin_with.Goals as goal

pub lower_times-requires : goal.lower_times-requires
lower_times-requires g c = subst (λ (i : Pesp). IsTimetable i c.args.times.now) (sym c.requires)
    ((rw c.in-Feasible.is at c.score.ensures.score).0)
