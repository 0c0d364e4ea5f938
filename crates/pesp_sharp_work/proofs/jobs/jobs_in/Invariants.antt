use Rattle.std.proofs.Common.{map, true}
use Rattle.pesp_sharp_work.specs.Jobs.{told_job}
use Rattle.pesp_sharp_work.specs.Paths.{paths_waiting}
use Rattle.pesp_sharp_work.proofs.Listing.{AreListed}
use Rattle.pesp_sharp_work.proofs.jobs.jobs_in.Given as goal

abbrev pub invariant-loop-place : goal.invariant-loop-place
invariant-loop-place l = AreListed l.cost l.lines l.shown l.place (paths_waiting true l.path.items) (map told_job l.opens.items)
