use Rattle.pesp_branching.proofs.Replies.{refused_for_room, lent_leaf}
use Rattle.pesp_branching.proofs.turn.valid_work_is_taken.Goals as goal

pub returns-clause-taken : goal.returns-clause-taken
returns-clause-taken c = refused_for_room

pub returns-clause-lent : goal.returns-clause-lent
returns-clause-lent c = lent_leaf
