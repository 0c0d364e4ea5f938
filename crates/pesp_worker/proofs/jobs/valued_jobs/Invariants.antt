use Rattle.std.proofs.Common.{◌≡◌, ◌++◌, length, map}
use Rattle.std.specs.Prelude.{All}
use Rattle.std.specs.Vec.Iter.{into_iter_items, into_iter_len}
use Rattle.pesp_worker.specs.Jobs.{HasItsValue}
use Rattle.pesp_worker.proofs.jobs.valued_jobs.Given as goal

abbrev pub invariant-loop-job : goal.invariant-loop-job
invariant-loop-job l = record {
  all : l.yielded ++ into_iter_items l.job-iterator ≡ into_iter_items l.initial.job-iterator;
  jobs : map (λ leaf. leaf.job) l.opens.items ≡ l.yielded;
  values : All (HasItsValue l.board.problem l.board.state) l.opens.items;
  left : length (into_iter_items l.job-iterator) ≡ into_iter_len l.job-iterator;
}
