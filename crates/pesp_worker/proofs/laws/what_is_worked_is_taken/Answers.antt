use Rattle.pesp_worker.proofs.Taken.{worked_is_taken}
use Rattle.pesp_worker.proofs.laws.what_is_worked_is_taken.Goals as goal

pub returns : goal.returns
returns c = worked_is_taken
