use Rattle.pesp_board.proofs.Paths.{cut_at}
use Rattle.pesp_board.proofs.made_parts.make_branch.Goals as goal

pub kept_part-requires-clause-cut : goal.kept_part-requires-clause-cut
kept_part-requires-clause-cut c = cut_at c.args.problem.now c.args.path.now c.args.node c.args.node c.args.cut
    c.keeps_limits.ensures.network c.keeps_limits.ensures.table c.requires.at
    (c.leaves_both.ensures.0 c.if-not-leaves_both.false) c.requires.node

pub kept_part-requires-2-clause-cut : goal.kept_part-requires-2-clause-cut
kept_part-requires-2-clause-cut c = cut_at c.args.problem.now c.args.path.now c.args.node c.in_ok-again.again
    c.args.cut c.keeps_limits.ensures.network c.keeps_limits.ensures.table c.requires.at
    (c.leaves_both.ensures.0 c.if-not-leaves_both.false) c.in_ok-again.ensures.node
