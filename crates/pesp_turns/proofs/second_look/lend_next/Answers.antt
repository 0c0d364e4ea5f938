use Rattle.pesp_turns.proofs.ResumeEndings.{none_waits}
use Rattle.pesp_turns.proofs.second_look.lend_next.Goals as goal

pub returns-in-Ok-None-clause-next : goal.returns-in-Ok-None-clause-next
returns-in-Ok-None-clause-next c = none_waits c.args.board.now.problem c.args.board.now.state c.lend.new.self.state
    (rw c.in-Ok-None.field-0-is at c.in-Ok-None.ensures.state)
