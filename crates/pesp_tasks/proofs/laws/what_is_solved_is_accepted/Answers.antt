use Rattle.pesp_tasks.proofs.Joining.{accepts_what_is_solved}
use Rattle.pesp_tasks.proofs.laws.what_is_solved_is_accepted.Goals as goal

pub returns : goal.returns
returns c = accepts_what_is_solved
