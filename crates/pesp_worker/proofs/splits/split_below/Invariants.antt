use Rattle.std.specs.Prelude.{◌≡◌}
use Rattle.pesp_worker.proofs.splits.split_below.Given as goal

abbrev pub invariant-loop-look : goal.invariant-loop-look
invariant-loop-look g l = record {
  problem : l.search.board.problem ≡ l.fn.search.board.problem;
  known : l.search.known ≡ l.fn.search.known;
}
