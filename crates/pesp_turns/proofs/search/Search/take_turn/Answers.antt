use Rattle.pesp_turns.proofs.Growth.{turn_grows}
use Rattle.pesp_turns.proofs.Turned.{turn_told}
use Rattle.pesp_turns.proofs.search.Search.take_turn.Goals as goal

pub returns-clause-told : goal.returns-clause-told
returns-clause-told g c = rw (c.ended_by-ended.ensures.used, c.ended_by-ended.ensures.ending)
    (turn_told c.args.self.now.board.problem c.args.self.now.known.reduced c.in_ok-turn.turn
    c.args.self.now.board.state c.take_turn.new.board.state c.in_ok-turn.ensures.turn)

pub returns-clause-grows : goal.returns-clause-grows
returns-clause-grows g c = rw c.ended_by-ended.ensures.used
    (turn_grows c.args.self.now.board.problem c.args.self.now.known.reduced c.in_ok-turn.turn
    c.args.self.now.board.state c.take_turn.new.board.state c.in_ok-turn.ensures.turn)
