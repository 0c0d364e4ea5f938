use Rattle.pesp_turns.proofs.ResumeEndings.{none_split}
use Rattle.pesp_turns.proofs.resumption.go_on.Goals as goal

pub returns-then-steps-eq0-clause-ends : goal.returns-then-steps-eq0-clause-ends
returns-then-steps-eq0-clause-ends g c settled =
    none_split c.args.search.now.board.problem c.args.steps _ c.args.search.now.board.state
    c.look_anew.new.search.board.state c.look_anew.result c.if-steps-eq0.true c.look_anew.ensures.none
    c.look_anew.ensures.ended
