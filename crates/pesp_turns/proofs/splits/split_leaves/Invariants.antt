use Rattle.std.specs.Prelude.{◌≡◌}
use Rattle.pesp_turns.specs.Knowing.{IsKnown}
use Rattle.pesp_turns.proofs.Looks.{IsSplitTo}
use Rattle.pesp_turns.proofs.ResumeEndings.{AreLooks, AreToldTo}
use Rattle.pesp_turns.proofs.splits.split_leaves.Given as goal

abbrev pub invariant-loop-look : goal.invariant-loop-look
invariant-loop-look g l = record {
  known : IsKnown l.search.board.problem l.search.known;
  watch : g.W.Watcher.may_end l.watcher → g.W.Watcher.may_end l.fn.watcher;
  heeded : g.W.Watcher.has_ended l.watcher → g.W.Watcher.has_ended l.fn.watcher;
  told : AreToldTo (g.W.Watcher.has_said l.watcher) l.used;
  same : l.search.known ≡ l.fn.search.known;
  looks : AreLooks l.fn.search.board.problem l.search.board.problem l.fn.search.known.reduced l._look
      l.fn.search.board.state l.search.board.state;
  split : IsSplitTo l.fn.search.board.problem l.search.board.problem l.steps l.used l.fn.search.board.state l.search.board.state;
}
