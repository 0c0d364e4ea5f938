use Rattle.pesp_turns.proofs.ResumeEndings.{certified_ends, certified_told, certified_heeded}
use Rattle.pesp_turns.proofs.resumption.resume_search.Goals as goal

pub returns-clause-ends : goal.returns-clause-ends
returns-clause-ends g c settled = certified_ends c.args.search.now.board c.args.steps _
    c.go_on.new.search.board.state c.in_ok-done.done c.certify.result c.in_ok-done.ensures.ends
    c.certify.ensures.used c.certify.ensures.ending settled

pub returns-clause-told : goal.returns-clause-told
returns-clause-told g c = certified_told (g.W.Watcher.has_said c.go_on.new.watcher) c.in_ok-done.done c.certify.result c.in_ok-done.ensures.told c.certify.ensures.used
    c.certify.ensures.ending

pub returns-clause-heeded : goal.returns-clause-heeded
returns-clause-heeded g c = certified_heeded c.in_ok-done.done c.certify.result c.certify.ensures.ending c.in_ok-done.ensures.heeded
