use Rattle.std.proofs.Common.{◌≡◌, ◌++◌, length}
use Rattle.std.specs.Vec.Iter.{into_iter_items, into_iter_len}
use Rattle.pesp_worker.specs.Grafts.{TakesWorks}
use Rattle.pesp_worker.proofs.grafted.take_works.Given as goal

abbrev pub invariant-loop-work : goal.invariant-loop-work
invariant-loop-work l = record {
  all : l.yielded ++ into_iter_items l.work-iterator ≡ into_iter_items l.initial.work-iterator;
  takes : TakesWorks l.initial.board.problem l.events l.initial.board.state l.yielded l.replies.items l.board.state;
  problem : l.board.problem ≡ l.initial.board.problem;
  left : length (into_iter_items l.work-iterator) ≡ into_iter_len l.work-iterator;
}
