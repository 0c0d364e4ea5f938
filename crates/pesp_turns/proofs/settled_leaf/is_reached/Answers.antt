use Rattle.std.proofs.Common.{sym}
use Rattle.pesp_turns.proofs.Closings.{not_reached, not_at_most}
use Rattle.pesp_turns.proofs.settled_leaf.is_reached.Goals as goal

pub returns-clause-unreached : goal.returns-clause-unreached
returns-clause-unreached c more =
    not_reached c.args.board.now.problem c.args.board.now.state c.args.number c.in-Some.cost
    c.in-Some-job_leaf.value c.in-Some-job_leaf.field-0-1.now
    (sym c.in-Some.ensures.cost) c.in-Some-job_leaf.ensures.told
    (not_at_most c.in-Some.cost c.in-Some-job_leaf.value more)
