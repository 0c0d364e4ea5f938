use Rattle.pesp_turns.proofs.Counts.{IsSoFar}
use Rattle.pesp_turns.proofs.Endings.{AreTakenTo}
use Rattle.pesp_turns.proofs.all_turns.run_turns.Given as goal

abbrev pub invariant-loop-turn : goal.invariant-loop-turn
invariant-loop-turn g l = record {
  counts : IsSoFar l.fn.board.problem l.board.problem l.known.reduced l.steps l.used l._turn l.fn.board.state l.board.state;
  taken : AreTakenTo l.fn.board.problem l.board.problem l.known.reduced l.used l._turn l.fn.board.state l.board.state;
}
