use Rattle.std.proofs.Common.{◌≡◌, ◌++◌, length}
use Rattle.std.specs.Vec.Iter.{into_iter_items, into_iter_len}
use Rattle.pesp_worker.proofs.Works.{AreJudgedSoFar}
use Rattle.pesp_worker.proofs.judged_trees.judge_each.Given as goal

abbrev pub invariant-loop-work : goal.invariant-loop-work
invariant-loop-work l = record {
  all : l.yielded ++ into_iter_items l.work-iterator ≡ into_iter_items l.initial.work-iterator;
  so_far : AreJudgedSoFar l.fn.board.problem l.board.problem l.fn.board.state l.board.state l.steps l.left l.until
      l.yielded (into_iter_items l.work-iterator) l.works.items;
  count : length (into_iter_items l.work-iterator) ≡ into_iter_len l.work-iterator;
}
