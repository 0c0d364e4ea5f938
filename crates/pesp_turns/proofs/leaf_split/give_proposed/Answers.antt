use Rattle.pesp_turns.proofs.Lent.{split_cut, step_taken, step_too_large}
use Rattle.pesp_turns.proofs.leaf_split.give_proposed.Goals as goal

pub proposed_lines-requires-clause-cut : goal.proposed_lines-requires-clause-cut
proposed_lines-requires-clause-cut c = split_cut c.args.board.now.problem c.args.board.now.state c.args.job.now
    c.args.choice.now.cut c.args.node.now c.requires.node c.requires.split

pub returns-in-Ok-clause-given : goal.returns-in-Ok-clause-given
returns-in-Ok-clause-given c = step_taken c.args.board.now.problem c.args.board.now.state c.give.new.self.state
    c.args.job.now c.args.choice.now.cut c.in-Some.lines c.requires.split
    (rw c.in-Some.is at c.in_ok-lines.ensures) c.in-Ok.ensures.state

pub returns-in-Err-TooLarge-clause-given : goal.returns-in-Err-TooLarge-clause-given
returns-in-Err-TooLarge-clause-given c =
    let refused = rw (c.in-Err-TooLarge.field-0-is) at c.in-Err-TooLarge.ensures.state in
    step_too_large c.args.board.now.problem c.args.board.now.state c.give.new.self.state c.args.job.now
    c.args.choice.now.cut c.in-Some.lines c.requires.split (rw c.in-Some.is at c.in_ok-lines.ensures)
    refused.0 refused.1
