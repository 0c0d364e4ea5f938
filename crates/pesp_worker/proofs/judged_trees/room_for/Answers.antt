use Rattle.pesp_worker.proofs.Judgments.{whole_below}
use Rattle.pesp_worker.proofs.judged_trees.room_for.Goals as goal

pub returns-then-value-bound-clause-whole : goal.returns-then-value-bound-clause-whole
returns-then-value-bound-clause-whole c = whole_below c.args.board.now.problem c.args.board.now.state c.args.number
    c.args.most _ _ c.args.until _ c.in-Some.is c.in-Some-job_leaf.ensures.told c.if-value-bound.true
