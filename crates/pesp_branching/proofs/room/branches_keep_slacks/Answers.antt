use Rattle.pesp_branching.proofs.Settled.{slacks_at_root, slacks_along}
use Rattle.pesp_branching.proofs.room.branches_keep_slacks.Goals as goal

pub returns-clause-root : goal.returns-clause-root
returns-clause-root c = slacks_at_root

pub returns-clause-along : goal.returns-clause-along
returns-clause-along c = slacks_along
