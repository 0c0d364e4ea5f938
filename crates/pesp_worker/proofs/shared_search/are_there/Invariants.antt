use Rattle.std.proofs.Common.{◌<◌, length, take}
use Rattle.std.specs.Prelude.{All}
use Rattle.pesp_worker.proofs.shared_search.are_there.Given as goal

abbrev pub invariant-loop-job : goal.invariant-loop-job
invariant-loop-job l = All (λ job. job < length l.lent.jobs.items) (take l.job-index l.jobs)
