use Rattle.pesp_tasks.proofs.SharpJoining.{accepts_what_is_resumed}
use Rattle.pesp_tasks.proofs.laws.what_is_resumed_is_accepted.Goals as goal

pub returns : goal.returns
returns c = accepts_what_is_resumed
