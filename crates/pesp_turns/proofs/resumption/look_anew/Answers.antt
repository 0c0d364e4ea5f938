use Rattle.pesp_turns.proofs.Looks.{grows_after}
use Rattle.pesp_turns.proofs.ResumeEndings.{looked_from}
use Rattle.pesp_turns.proofs.resumption.look_anew.Goals as goal

pub returns-clause-grows : goal.returns-clause-grows
returns-clause-grows g c = grows_after c.args.search.now.board.problem c.offer_anew.new.search.board.problem 0 0
    c.args.search.now.board.state c.offer_anew.new.search.board.state c.look_again.new.board.state
    c.in_ok-offer_anew.ensures.problem c.in_ok-offer_anew.ensures.grows c.in_ok-ending.ensures.grows

pub returns-clause-ended : goal.returns-clause-ended
returns-clause-ended g c = looked_from c.args.search.now.board.problem c.offer_anew.new.search.board.problem _
    c.args.search.now.board.state c.offer_anew.new.search.board.state c.look_again.new.board.state
    c.in_ok-ending.ending c.in_ok-offer_anew.ensures.problem c.in_ok-ending.ensures.ended
