use Rattle.pesp_branching.proofs.Turns.{closes_by_nothing, closes_by_gap}
use Rattle.pesp_branching.proofs.turn.leaf_is_closed.Goals as goal

pub returns-clause-nothing : goal.returns-clause-nothing
returns-clause-nothing c = closes_by_nothing

pub returns-clause-gap : goal.returns-clause-gap
returns-clause-gap c = closes_by_gap
