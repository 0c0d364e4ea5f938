use Rattle.pesp_branching.proofs.Ends.{has_branches, fewer_than_room, not_open}
use Rattle.pesp_branching.proofs.turn.worked_boards_certify.Goals as goal

pub returns-clause-branches : goal.returns-clause-branches
returns-clause-branches c = has_branches

pub returns-clause-fewer : goal.returns-clause-fewer
returns-clause-fewer c = fewer_than_room

pub returns-clause-decided : goal.returns-clause-decided
returns-clause-decided c = not_open
