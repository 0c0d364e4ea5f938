use Rattle.std.proofs.Common.{rules}
use Rattle.pesp_board.proofs.board.Board.offer.Goals as goal

pub returns-then-not-is_cheaper-clause-state : goal.returns-then-not-is_cheaper-clause-state
returns-then-not-is_cheaper-clause-state c = search rules

pub returns-clause-state : goal.returns-clause-state
returns-clause-state c = search rules
