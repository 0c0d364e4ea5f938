use Rattle.pesp_branching.proofs.Turns.{offers}
use Rattle.pesp_branching.proofs.turn.times_are_offered.Goals as goal

pub returns : goal.returns
returns c = offers
