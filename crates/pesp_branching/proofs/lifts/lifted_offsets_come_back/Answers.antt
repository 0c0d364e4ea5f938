use Rattle.pesp_branching.proofs.Slacks.{offsets_come_back}
use Rattle.pesp_branching.proofs.lifts.lifted_offsets_come_back.Goals as goal

pub returns : goal.returns
returns c = offsets_come_back
