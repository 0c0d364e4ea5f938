use Rattle.std.specs.Prelude.{◌≤◌, length}
use Rattle.pesp_turns.proofs.Looks.{IsLookedAt}
use Rattle.pesp_turns.proofs.second_look.look_again.Given as goal

abbrev pub invariant-loop-look : goal.invariant-loop-look
invariant-loop-look g l = record {
  looked : IsLookedAt l.fn.board.problem l.board.problem l.fn.board.state l.board.state;
  watch : g.W.Watcher.may_end l.watcher → g.W.Watcher.may_end l.fn.watcher;
  heeded : g.W.Watcher.has_ended l.watcher → g.W.Watcher.has_ended l.fn.watcher;
  spent : l._look ≤ length l.board.state.numbers;
}
