use Rattle.pesp_branching.proofs.Replies.{lent_here}
use Rattle.pesp_turns.proofs.Lent.{lent_pairs, split_cut, handed_step, step_given}
use Rattle.pesp_turns.proofs.leaf_split.give_found.Goals as goal

pub unreachable-requires : goal.unreachable-requires
unreachable-requires c =
    let lent = c.requires.split.lent in
    let never = rw c.in_default.is at c.job_leaf.ensures.told in
    never (c.args.job.now.path.items, lent_here c.args.board.now.problem lent.before c.args.board.now.state c.args.job.now lent.lends)

pub expand-requires-clause-cut : goal.expand-requires-clause-cut
expand-requires-clause-cut c = split_cut c.args.board.now.problem c.args.board.now.state c.args.job.now
    c.args.choice.cut c.args.node c.requires.node c.requires.split

pub expand-requires-clause-start : goal.expand-requires-clause-start
expand-requires-clause-start c = lent_pairs c.args.board.now.problem c.problem.result.now c.args.board.now.state
    c.args.job.now c.in-Some.field-0-0 c.in-Some.start.now c.problem.ensures c.requires.split.lent
    c.in-Some.ensures.told

pub hand_in-requires : goal.hand_in-requires
hand_in-requires c = handed_step c.args.board.now.problem c.problem.result.now c.args.board.now.state
    c.args.job.now c.args.choice.cut c.args.node c.in-Some.field-0-0 c.in-Some.start.now c.in_ok-lines.lines
    c.problem.ensures c.requires.at c.requires.split c.in-Some.ensures.told c.in_ok-lines.ensures

pub returns-clause-given : goal.returns-clause-given
returns-clause-given c = step_given c.args.board.now.problem c.problem.result.now c.args.board.now.state
    c.hand_in.new.board.state c.args.job.now c.in-Some.start.now _ c.args.choice.cut c.in_ok-lines.lines
    c.hand_in.result c.requires.split c.in_ok-lines.ensures c.hand_in.ensures.given
