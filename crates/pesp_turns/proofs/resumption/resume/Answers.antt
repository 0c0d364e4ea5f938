use Rattle.pesp_turns.proofs.ResumeEndings.{none_is_lent_yet}
use Rattle.pesp_turns.proofs.Resumptions.{is_resumed_of}
use Rattle.pesp_turns.proofs.resumption.resume.Goals as goal

pub returns-clause-resumed : goal.returns-clause-resumed
returns-clause-resumed g c =
    let search = c.in_ok-search.search in
    let begun = c.in_ok-search.ensures.begun in
    is_resumed_of c.args.instance.now c.args.base.now search.board.problem search.board.state
    c.resume_search-resumed.new.search.board.state c.args.steps _ c.resume_search-resumed.result c.events.ensures.limits
    c.answer.ensures.limits.answer c.requires begun c.resume_search-resumed.ensures.grows c.resume_search-resumed.ensures.few
    (c.resume_search-resumed.ensures.ends (none_is_lent_yet search.board.problem c.args.base.now search.board.state
    begun.adopts)) c.resume_search-resumed.ensures.certified
