use Rattle.std.specs.Prelude.{◌≡◌}
use Rattle.pesp_worker.proofs.shared_search.recall_all.Given as goal

abbrev pub invariant-loop-job : goal.invariant-loop-job
invariant-loop-job l = l.board.problem ≡ l.fn.board.problem
