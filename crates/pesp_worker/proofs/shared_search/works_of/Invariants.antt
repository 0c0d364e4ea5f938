use Rattle.std.proofs.Common.{◌≡◌, ◌⊎◌, [], take}
use Rattle.std.specs.List.{AllZip}
use Rattle.pesp_worker.proofs.Works.{HasShown}
use Rattle.pesp_worker.proofs.shared_search.works_of.Given as goal

abbrev pub invariant-loop-job : goal.invariant-loop-job
invariant-loop-job l = record {
  works : AllZip (HasShown l.fn.times.items) (take l.job-index l.jobs) l.works.items;
  left : (l.left.items ≡ []) ⊎ (l.left.items ≡ l.fn.times.items);
}
