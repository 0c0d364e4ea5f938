use Rattle.pesp_sharp_work.proofs.CountedJobs.{AreCounted}
use Rattle.pesp_sharp_work.proofs.jobs.open_count.Given as goal

abbrev pub invariant-loop-value : goal.invariant-loop-value
invariant-loop-value l = AreCounted l.cost l.shown l.value-index l.count
